-- Worked examples of the items of tasks: each is proved by computing both sides.
use Rattle.std.specs.Prelude.{◌≡◌, ⊤, ℕ, pos, Bool, true, false, nat_lt, List, [], ◌∷◌, length, Option, Some, None, Ok, Err, codes, refl}
use Rattle.std.specs.Char.{encode_utf8}
use Rattle.std.specs.Fmt.{digits}
use Rattle.std.specs.Str.{chars}
use Rattle.pb_value.specs.Datum.{Datum, boolean, int, text, list, dict, items_of, members_of, list_of}
use Rattle.pb_layers.specs.Scope.{Map, layers}
use Rattle.pb_expr_syntax.specs.Computed.{tree_of, tree_of_tokens}
use Rattle.pb_expr_syntax.specs.Tree as tree
use Rattle.pb_expr_syntax.specs.Tree.{Tree}
use Rattle.pb_expr_syntax.specs.declared.tree.Op.TheVariants.{NotEqual}
use Rattle.pb_template.specs.Computed.{template_of}
use Rattle.pb_expr_eval.specs.Rendering.{measured}
use Rattle.pb_expr_eval.specs.Scoped.{eval_of, rendered_of}
use Rattle.pb_outcome.specs.Decided.{faulty_result, debug_result}
use Rattle.pb_outcome.specs.declared.gather.Ending.TheVariants.{Ran}
use Rattle.pb_outcome.specs.declared.gather.ItemResult.{ItemResult}
use Rattle.pb_outcome.specs.declared.item.Item.{Item}
use Rattle.pb_outcome.specs.declared.item.Planned.TheVariants.{Decided, Sends}
use Rattle.pb_outcome.specs.declared.job.Call.TheVariants as call
use Rattle.pb_play.specs.Tasks.{plain_task}
use Rattle.pb_play.specs.declared.modules.Module.{Module}
use Rattle.pb_play.specs.declared.modules.Module.TheVariants.{Debug, Shell}
use Rattle.pb_play.specs.declared.loops.Loop.{Loop}
use Rattle.pb_items.specs.declared.fault.ItemFault.TheVariants.{TooManyItems}
use Rattle.pb_items.specs.Items.{StartOf, item_in, items_of as task_items}
use Rattle.pb_items.specs.Loops.{max_items, values_in, values_of}
use Rattle.pb_items.specs.Planning.{done_by}
use Rattle.pb_items.specs.Results.{skipped_result}

-- what computes the items of a task
unfoldable on_items : ⊤
unfolding chars encode_utf8 digits template_of tree_of tree_of_tokens eval_of rendered_of measured done_by values_of item_in task_items
on_items = tt

-- a task on a host where a play gives these variables
abbrev starts : Module → List Tree → Option Loop → Map → StartOf
starts called conditions looped vars =
    record {
      task = record (plain_task (codes "t") [] called) { conditions = conditions; looped = looped };
      conditions = conditions;
      delegate_to = None;
      has_facts_program = false;
      layers = layers [] [] [] [] vars [] [] [] [] [] [];
      magic = [];
    }

-- a message that is shown
abbrev shows : List ℕ → Module
shows msg = Debug (text msg)

abbrev over : Datum → Option Loop
over v = Some (record { over = v; variable = codes "item" })

-- an item that is decided, of no loop and of a loop
abbrev alone : ItemResult → Item
alone result = record { value = None; delegate = None; tried = 0; step = Decided result }

abbrev of_value : Datum → ItemResult → Item
of_value v result = record { value = Some v; delegate = None; tried = 0; step = Decided result }

shown : task_items (starts (shows (codes "{{ x }}")) (tree.Name (codes "x") ∷ []) None ((codes "x", int (pos 1)) ∷ [])) ≡ alone (debug_result (int (pos 1))) ∷ []
unfolding on_items
shown = refl

sent : task_items (starts (Shell (codes "ls {{ x }}")) [] None ((codes "x", int (pos 1)) ∷ [])) ≡ record { value = None; delegate = None; tried = 0; step = Sends (call.Shell (codes "ls 1")) } ∷ []
unfolding on_items
sent = refl

-- what its conditions leave out isn't read
left_out : task_items (starts (shows (codes "{{ x }}")) (tree.Truth false ∷ []) None []) ≡ alone skipped_result ∷ []
unfolding on_items
left_out = refl

cut_at_first_false : task_items (starts (Shell (codes "ls")) (tree.Truth true ∷ tree.Null ∷ tree.Name (codes "x") ∷ []) None []) ≡ alone skipped_result ∷ []
unfolding on_items
cut_at_first_false = refl

-- the fault of a condition comes before that of the module
undefined_condition : task_items (starts (shows (codes "{{ 1 + 'a' }}")) (tree.Name (codes "x") ∷ []) None []) ≡ alone (faulty_result (codes "'x' is undefined")) ∷ []
unfolding on_items
undefined_condition = refl

-- each item has its own conditions, and its own fault
over_list :
    task_items
    (starts (shows (codes "{{ item + 1 }}")) (tree.Binary NotEqual (tree.Name (codes "item")) (tree.Int (pos 2)) ∷ [])
    (over (list (items_of (int (pos 1) ∷ text (codes "{{ x }}") ∷ text (codes "a") ∷ [])))) ((codes "x", int (pos 2)) ∷ []))
    ≡ of_value (int (pos 1)) (debug_result (int (pos 2))) ∷ of_value (int (pos 2)) skipped_result ∷ of_value (text (codes "a")) (faulty_result (codes "wrong kind of value")) ∷ []
unfolding on_items
over_list = refl

over_text : task_items (starts (shows (codes "{{ item }}")) [] (over (text (codes "{{ x }}"))) ((codes "x", list (items_of (int (pos 1) ∷ []))) ∷ [])) ≡ of_value (int (pos 1)) (debug_result (int (pos 1))) ∷ []
unfolding on_items
over_text = refl

-- a value of the loop is no template
value_is_whole :
    task_items (starts (shows (codes "{{ item }}")) [] (over (list (items_of (text (codes "{{ '{{ x }}' }}") ∷ [])))) []) ≡ of_value (text (codes "{{ x }}")) (debug_result (text (codes "{{ x }}"))) ∷ []
unfolding on_items
value_is_whole = refl

over_nothing : task_items (starts (shows (codes "hi")) [] (over (list (items_of []))) []) ≡ []
unfolding on_items
over_nothing = refl

-- a loop that can't be read is one faulty item of no loop, whatever its conditions are
over_no_list : task_items (starts (shows (codes "hi")) (tree.Truth false ∷ []) (over (text (codes "abc"))) []) ≡ alone (faulty_result (codes "loop is not a list")) ∷ []
unfolding on_items
over_no_list = refl

over_undefined : task_items (starts (shows (codes "hi")) [] (over (text (codes "{{ x }}"))) []) ≡ alone (faulty_result (codes "'x' is undefined")) ∷ []
unfolding on_items
over_undefined = refl

-- a loop doesn't see its own variable
over_item : task_items (starts (shows (codes "hi")) [] (over (list (items_of (text (codes "{{ item }}") ∷ [])))) []) ≡ alone (faulty_result (codes "'item' is undefined")) ∷ []
unfolding on_items
over_item = refl

too_many : (ds : List Datum) → nat_lt max_items (length (list_of (items_of ds))) ≡ true → values_in (list (items_of ds)) ≡ Err TooManyItems
too_many ds more = rw more refl

just_so_many : (ds : List Datum) → nat_lt max_items (length (list_of (items_of ds))) ≡ false → values_in (list (items_of ds)) ≡ Ok (list_of (items_of ds))
just_so_many ds few = rw few refl

limit_is_in : nat_lt max_items 10000 ≡ false
limit_is_in = refl

limit_is_passed : nat_lt max_items 10001 ≡ true
limit_is_passed = refl

-- the loop variable stands above the extra variables and the magic ones
item_over_all :
    task_items
    (record (starts (shows (codes "{{ item }}")) [] (over (list (items_of (int (pos 1) ∷ [])))) []) {
      layers = layers [] [] [] [] [] [] [] [] [] [] ((codes "item", int (pos 2)) ∷ []);
      magic = (codes "item", int (pos 3)) ∷ [];
    })
    ≡ of_value (int (pos 1)) (debug_result (int (pos 1))) ∷ []
unfolding on_items
item_over_all = refl

named_variable : task_items (starts (shows (codes "{{ y }}")) [] (Some (record { over = list (items_of (int (pos 1) ∷ [])); variable = codes "y" })) []) ≡ of_value (int (pos 1)) (debug_result (int (pos 1))) ∷ []
unfolding on_items
named_variable = refl

delegated :
    task_items (record (starts (Shell (codes "ls")) [] (over (list (items_of (text (codes "b") ∷ [])))) []) { delegate_to = Some (codes "{{ item }}1") })
    ≡ record { value = Some (text (codes "b")); delegate = Some (codes "b1"); tried = 0; step = Sends (call.Shell (codes "ls")) } ∷ []
unfolding on_items
delegated = refl

-- a delegate is a text that isn't empty, and is read last
bad_delegate : task_items (record (starts (shows (codes "hi")) [] None []) { delegate_to = Some (codes "{{ 1 }}") }) ≡ alone (faulty_result (codes "bad delegate")) ∷ []
unfolding on_items
bad_delegate = refl

empty_delegate : task_items (record (starts (shows (codes "hi")) [] None []) { delegate_to = Some [] }) ≡ alone (faulty_result (codes "bad delegate")) ∷ []
unfolding on_items
empty_delegate = refl

module_before_delegate : task_items (record (starts (shows (codes "{{ x }}")) [] None []) { delegate_to = Some [] }) ≡ alone (faulty_result (codes "'x' is undefined")) ∷ []
unfolding on_items
module_before_delegate = refl

-- an item that is decided at once is what its task says of it
abbrev says : Option (List ℕ) → Option (List Tree) → Option (List Tree) → StartOf → StartOf
says register changed_when failed_when start =
    record start { task = record (start.task) { register = register; changed_when = changed_when; failed_when = failed_when } }

abbrev shows_hi : StartOf
shows_hi = starts (shows (codes "hi")) [] None []

abbrev said_hi : Bool → Bool → ItemResult
said_hi changed failed =
    record {
      ending = Ran changed failed;
      result = dict (members_of ((codes "changed", boolean changed) ∷ (codes "failed", boolean failed) ∷ (codes "msg", text (codes "hi")) ∷ []));
    }

debug_changed : task_items (says None (Some (tree.Truth true ∷ [])) None shows_hi) ≡ alone (said_hi true false) ∷ []
unfolding on_items
debug_changed = refl

debug_failed : task_items (says None None (Some (tree.Truth true ∷ [])) shows_hi) ≡ alone (said_hi false true) ∷ []
unfolding on_items
debug_failed = refl

-- whether it failed sees the item's result, changed as the task has it, under the name that it registers
failed_sees_changed :
    task_items (says (Some (codes "r")) (Some (tree.Truth true ∷ [])) (Some (tree.Member (tree.Name (codes "r")) (codes "changed") ∷ [])) shows_hi) ≡ alone (said_hi true true) ∷ []
unfolding on_items
failed_sees_changed = refl

-- each item by its own loop variable
failed_by_item :
    task_items
    (says None None (Some (tree.Binary NotEqual (tree.Name (codes "item")) (tree.Int (pos 1)) ∷ []))
    (starts (shows (codes "hi")) [] (over (list (items_of (int (pos 1) ∷ int (pos 2) ∷ [])))) []))
    ≡ of_value (int (pos 1)) (said_hi false false) ∷ of_value (int (pos 2)) (said_hi false true) ∷ []
unfolding on_items
failed_by_item = refl

-- a fault of theirs is the item's
changed_undefined : task_items (says None (Some (tree.Name (codes "x") ∷ [])) None shows_hi) ≡ alone (faulty_result (codes "'x' is undefined")) ∷ []
unfolding on_items
changed_undefined = refl

-- a bad delegate is met before them
delegate_before_failed :
    task_items (says None None (Some (tree.Name (codes "x") ∷ [])) (record shows_hi { delegate_to = Some [] })) ≡ alone (faulty_result (codes "bad delegate")) ∷ []
unfolding on_items
delegate_before_failed = refl

-- what is left out, what can't be read, and what is sent, stay as they are
left_out_stays : task_items (says None (Some (tree.Truth true ∷ [])) (Some (tree.Truth true ∷ [])) (starts (shows (codes "hi")) (tree.Truth false ∷ []) None [])) ≡ alone skipped_result ∷ []
unfolding on_items
left_out_stays = refl

faulty_stays : task_items (says None None (Some (tree.Truth false ∷ [])) (starts (shows (codes "{{ x }}")) [] None [])) ≡ alone (faulty_result (codes "'x' is undefined")) ∷ []
unfolding on_items
faulty_stays = refl

sent_stays :
    task_items (says None (Some (tree.Truth true ∷ [])) (Some (tree.Truth true ∷ [])) (starts (Shell (codes "ls")) [] None []))
    ≡ record { value = None; delegate = None; tried = 0; step = Sends (call.Shell (codes "ls")) } ∷ []
unfolding on_items
sent_stays = refl
