-- A task has the same items, and each attempt at them comes to the same, whatever stands under a name that it doesn't read.
use Rattle.std.proofs.Common.{◌≡◌, ℕ, ◌<◌, Bool, true, false, ◌||◌, List, [], ◌∷◌, length, map, Option, Some, None, Result, Ok, Err, refl, ap, ◌∙◌, arith}
use Rattle.std.specs.Prelude.{⊤, nat_lt}
use Rattle.std.specs.Str.{bytes_eq}
use Rattle.pb_value.specs.Datum.{Datum, text, items_of as row_of, members_of}
use Rattle.pb_value.specs.Reading.{and_then, map_ok}
use Rattle.pb_expr_syntax.specs.Tree.{Tree, trees_of}
use Rattle.pb_layers.specs.Scope.{Map}
use Rattle.pb_items.specs.FromExprEval.{rendered_of}
use Rattle.pb_operators.specs.declared.fault.EvalFault.{EvalFault}
use Rattle.pb_items.specs.FromConditions.{counted, is_enough, by_until, came_by, came, attempted, holds, Sees, sees, seen_as, by_condition, changed_to, failed_to, by_conditions, or_faulty}
use Rattle.pb_items.specs.FromConditions.{with_conditions_by, with_conditions, Ends}
use Rattle.pb_outcome.specs.declared.gather.Ending.{Ending}
use Rattle.pb_outcome.specs.declared.gather.Ending.TheVariants.{Skipped, Faulty, Unreachable, NotStarted, Ran}
use Rattle.pb_outcome.specs.declared.gather.ItemResult.{ItemResult}
use Rattle.pb_outcome.specs.declared.item.Item.{Item}
use Rattle.pb_outcome.specs.declared.item.Planned.{Planned}
use Rattle.pb_outcome.specs.declared.item.Planned.TheVariants.{Decided, Sends}
use Rattle.pb_play.specs.declared.commands.CommandWords.{CommandWords}
use Rattle.pb_play.specs.declared.commands.CommandWords.TheVariants.{Line, Argv}
use Rattle.pb_play.specs.declared.loops.Loop.{Loop}
use Rattle.pb_play.specs.declared.modules.Module.{Module}
use Rattle.pb_play.specs.declared.modules.Module.TheVariants.{Assert, Command, Debug, DebugVar, Fail, Meta, SetFact, Setup, Shell}
use Rattle.pb_play.specs.declared.retrying.Retrying.{Retrying}
use Rattle.pb_play.specs.declared.task.Task.{Task}
use Rattle.pb_items.specs.Calls.{words_in, command_in}
use Rattle.pb_items.specs.Facts.{facts_of}
use Rattle.pb_items.specs.Faults.{evaluated}
use Rattle.pb_items.specs.Items.{StartOf, Step, seen_by, delegate_in, attempted_by, with_conditions_step, step_of, step_if, step_in, item_of, item_in, looped_items, items_by, items_of}
use Rattle.pb_items.specs.Loops.{loop_variable, values_of}
use Rattle.pb_items.specs.Planning.{done_by}
use Rattle.pb_items.specs.declared.fault.ItemFault.{ItemFault}
use Rattle.pb_reach.specs.Apart.{SameBut, AreApart}
use Rattle.pb_mentions.specs.Mentions.{mentions, items_mention, members_mention}
use Rattle.pb_reach.specs.Named.{in_tree, in_trees}
use Rattle.pb_reach.specs.Reach.{words_mention, module_mentions, loop_mentions, conditions_name, result_names, task_mentions, delegate_mentions, layers_mention, may_read, start_from, with_magic, start_reads}
use Rattle.pb_reach.specs.ResultConditions.{until_of}
use Rattle.pb_reach.proofs.Alike.{then_alike, eval_alike, rendered_apart}
use Rattle.pb_reach.proofs.Stored.{scopes_apart}
use Rattle.pb_reach.proofs.Tests.{neither, none_of}
use Rattle.pb_reach.proofs.Unnamed.{value_unnamed}

-- a value without the word
value_own : (word : List ℕ) → bytes_eq [] word ≡ false → (scope other : List Map) → AreApart word scope other → (d : Datum) → mentions word d ≡ false → rendered_of scope d ≡ rendered_of other d
value_own word some scope other apart d e = rendered_apart word scope other apart d (value_unnamed word some d e)

-- conditions, and what is read of a module
holds_own : (word : List ℕ) (scope other : List Map) → AreApart word scope other → (cs : List Tree) → in_trees word (trees_of cs) ≡ false → holds scope cs ≡ holds other cs
holds_own word scope other apart [] e = refl
holds_own word scope other apart (c ∷ cs) e =
    let both = neither (in_tree word c) (in_trees word (trees_of cs)) e in
    rw (eval_alike word scope other apart c both.0, holds_own word scope other apart cs both.1) refl

words_own : (word : List ℕ) → bytes_eq [] word ≡ false → (scope other : List Map) → AreApart word scope other → (ds : List Datum) → items_mention word (row_of ds) ≡ false →
    words_in scope ds ≡ words_in other ds
words_own word some scope other apart [] e = refl
words_own word some scope other apart (d ∷ ds) e =
    let both = neither (mentions word d) (items_mention word (row_of ds)) e in
    rw (value_own word some scope other apart d both.0, words_own word some scope other apart ds both.1) refl

command_own : (word : List ℕ) → bytes_eq [] word ≡ false → (scope other : List Map) → AreApart word scope other → (words : CommandWords) → words_mention word words ≡ false →
    command_in scope words ≡ command_in other words
command_own word some scope other apart (Line line) e = rw (value_own word some scope other apart (text line) e) refl
command_own word some scope other apart (Argv argv) e = rw (words_own word some scope other apart argv e) refl

facts_own : (word : List ℕ) → bytes_eq [] word ≡ false → (scope other : List Map) → AreApart word scope other → (m : Map) → members_mention word (members_of m) ≡ false → facts_of scope m ≡ facts_of other m
facts_own word some scope other apart [] e = refl
facts_own word some scope other apart (m ∷ ms) e =
    let both = neither (mentions word m.1) (members_mention word (members_of ms)) e in
    rw (value_own word some scope other apart m.1 both.0, facts_own word some scope other apart ms both.1) refl

done_own : (word : List ℕ) → bytes_eq [] word ≡ false → (program : Bool) (scope other : List Map) → AreApart word scope other → (called : Module) → module_mentions word called ≡ false →
    done_by program scope called ≡ done_by program other called
unfolding done_by
done_own word some program scope other apart (Assert that fail_msg success_msg) e =
    let first = neither (in_trees word (trees_of that) || mentions word fail_msg) (mentions word success_msg) e in
    let both = neither (in_trees word (trees_of that)) (mentions word fail_msg) first.0 in
    rw (holds_own word scope other apart that both.0, value_own word some scope other apart fail_msg both.1, value_own word some scope other apart success_msg first.1) refl
done_own word some program scope other apart (Command words) e = rw (command_own word some scope other apart words e) refl
done_own word some program scope other apart (Debug msg) e = rw (value_own word some scope other apart msg e) refl
done_own word some program scope other apart (DebugVar name expr) e = rw (eval_alike word scope other apart expr e) refl
done_own word some program scope other apart (Fail msg) e = rw (value_own word some scope other apart msg e) refl
done_own word some program scope other apart (Meta meta) e = refl
done_own word some program scope other apart (SetFact facts) e = rw (facts_own word some scope other apart facts e) refl
done_own word some program scope other apart Setup e = refl
done_own word some program scope other apart (Shell cmd) e = rw (value_own word some scope other apart (text cmd) e) refl

-- to whom an item is delegated
delegate_own : (word : List ℕ) → bytes_eq [] word ≡ false → (scope other : List Map) → AreApart word scope other → (to : Option (List ℕ)) → delegate_mentions word to ≡ false →
    delegate_in scope to ≡ delegate_in other to
delegate_own word some scope other apart None e = refl
delegate_own word some scope other apart (Some template) e = rw (value_own word some scope other apart (text template) e) refl

-- what a task says itself of a result, by conditions that hold alike
abbrev pub HoldAlike : Sees → Sees → Option (List Tree) → Type 0
HoldAlike sight other None = ⊤
HoldAlike sight other (Some cs) = (seen : Map) → holds (sight seen) cs ≡ holds (other seen) cs

by_condition_alike : (sight other : Sees) (change : ItemResult → Bool → ItemResult) (register : Option (List ℕ)) (conditions : Option (List Tree)) → HoldAlike sight other conditions → (result : ItemResult) →
    by_condition change sight register conditions result ≡ by_condition change other register conditions result
by_condition_alike sight other change register None alike result = refl
by_condition_alike sight other change register (Some cs) alike result = ap (λ (r : Result Bool EvalFault). map_ok (change result) r) (alike (seen_as register result.result))

attempts_alike : (sight other : Sees) (register : Option (List ℕ)) (changed failed : Option (List Tree)) → HoldAlike sight other changed → HoldAlike sight other failed → (result : ItemResult) →
    by_conditions sight register changed failed result ≡ by_conditions other register changed failed result
attempts_alike sight other register changed failed c f result =
    ap (λ (r : Result ItemResult EvalFault). and_then r (by_condition failed_to sight register failed)) (by_condition_alike sight other changed_to register changed c result)
    ∙ then_alike (by_condition changed_to other register changed result) (by_condition failed_to sight register failed) (by_condition failed_to other register failed)
    (by_condition_alike sight other failed_to register failed f)

pub with_conditions_alike : (sight other : Sees) (register : Option (List ℕ)) (changed failed : Option (List Tree)) → HoldAlike sight other changed → HoldAlike sight other failed → (result : ItemResult) →
    with_conditions sight register changed failed result ≡ with_conditions other register changed failed result
with_conditions_alike sight other register changed failed c f result = by_ending result.ending
  where
    by_ending : (ending : Ending) → with_conditions_by ending sight register changed failed result ≡ with_conditions_by ending other register changed failed result
    by_ending (Ran changes fails) = ap or_faulty (attempts_alike sight other register changed failed c f result)
    by_ending Skipped = refl
    by_ending Faulty = refl
    by_ending Unreachable = refl
    by_ending NotStarted = refl

-- as they do that don't have the word
alike_own : (word : List ℕ) (sight other : Sees) → ((seen : Map) → AreApart word (sight seen) (other seen)) → (conditions : Option (List Tree)) → conditions_name word conditions ≡ false →
    HoldAlike sight other conditions
alike_own word sight other apart None e = tt
alike_own word sight other apart (Some cs) e = λ seen. holds_own word (sight seen) (other seen) (apart seen) cs e

pub with_conditions_own : (word : List ℕ) (sight other : Sees) → ((seen : Map) → AreApart word (sight seen) (other seen)) → (register : Option (List ℕ)) (changed failed : Option (List Tree)) →
    conditions_name word changed ≡ false → conditions_name word failed ≡ false → (result : ItemResult) → with_conditions sight register changed failed result ≡ with_conditions other register changed failed result
with_conditions_own word sight other apart register changed failed e f result =
    with_conditions_alike sight other register changed failed (alike_own word sight other apart changed e) (alike_own word sight other apart failed f) result

-- what an attempt comes to, where it is tried again by conditions that hold alike too
enough_alike : (sight other : Sees) (register : Option (List ℕ)) (until : Option (List Tree)) → HoldAlike sight other until → (result : ItemResult) →
    is_enough sight register until result ≡ is_enough other register until result
enough_alike sight other register None alike result = refl
enough_alike sight other register (Some cs) alike result = alike (seen_as register result.result)

came_alike : (sight other : Sees) (register : Option (List ℕ)) (until : Option (List Tree)) → HoldAlike sight other until → (is_last : Bool) (result : ItemResult) →
    came sight register until is_last result ≡ came other register until is_last result
came_alike sight other register until u is_last result = by_ending result.ending
  where
    by_ending : (ending : Ending) → came_by ending sight register until is_last result ≡ came_by ending other register until is_last result
    by_ending (Ran changes fails) = ap (λ (r : Result Bool EvalFault). by_until r is_last result) (enough_alike sight other register until u result)
    by_ending Skipped = refl
    by_ending Faulty = refl
    by_ending Unreachable = refl
    by_ending NotStarted = refl

attempted_alike : (sight other : Sees) (register : Option (List ℕ)) (changed failed until : Option (List Tree)) → HoldAlike sight other changed → HoldAlike sight other failed → HoldAlike sight other until →
    (attempt : ℕ) (is_last : Bool) (result : ItemResult) → attempted sight register changed failed until attempt is_last result ≡ attempted other register changed failed until attempt is_last result
attempted_alike sight other register changed failed until c f u attempt is_last result =
    came_alike sight other register until u is_last (with_conditions sight register changed failed (counted attempt result))
    ∙ ap (came other register until is_last) (with_conditions_alike sight other register changed failed c f (counted attempt result))

pub tried_alike : (retrying : Option Retrying) (start : StartOf) (magic variable : Map) → HoldAlike (sees start.layers start.magic variable) (sees start.layers magic variable) start.task.changed_when →
    HoldAlike (sees start.layers start.magic variable) (sees start.layers magic variable) start.task.failed_when →
    HoldAlike (sees start.layers start.magic variable) (sees start.layers magic variable) (until_of retrying) → (attempt : ℕ) (result : ItemResult) →
    attempted_by retrying start variable attempt result ≡ attempted_by retrying (with_magic start magic) variable attempt result
tried_alike None start magic variable c f u attempt result =
    ap Ends
    (with_conditions_alike (sees start.layers start.magic variable) (sees start.layers magic variable) start.task.register start.task.changed_when start.task.failed_when c f result)
tried_alike (Some retrying) start magic variable c f u attempt result =
    attempted_alike (sees start.layers start.magic variable) (sees start.layers magic variable) start.task.register start.task.changed_when start.task.failed_when retrying.until c f u attempt
    (nat_lt retrying.retries attempt) result

pub tried_own : (word : List ℕ) (start : StartOf) (magic variable : Map) →
    ((seen : Map) → AreApart word (sees start.layers start.magic variable seen) (sees start.layers magic variable seen)) → conditions_name word start.task.changed_when ≡ false →
    conditions_name word start.task.failed_when ≡ false → conditions_name word (until_of start.task.retrying) ≡ false → (attempt : ℕ) (result : ItemResult) →
    attempted_by start.task.retrying start variable attempt result ≡ attempted_by start.task.retrying (with_magic start magic) variable attempt result
tried_own word start magic variable apart e f g attempt result =
    let sight : Sees = sees start.layers start.magic variable in
    let other : Sees = sees start.layers magic variable in
    tried_alike start.task.retrying start magic variable (alike_own word sight other apart start.task.changed_when e) (alike_own word sight other apart start.task.failed_when f)
    (alike_own word sight other apart (until_of start.task.retrying) g) attempt result

-- what a start doesn't read, part by part
pub record Unread (word : List ℕ) (start : StartOf) : Type 0 where
  pub called : module_mentions word start.task.module ≡ false
  pub looped : loop_mentions word start.task.looped ≡ false
  pub changed : conditions_name word start.task.changed_when ≡ false
  pub failed : conditions_name word start.task.failed_when ≡ false
  pub conditions : in_trees word (trees_of start.conditions) ≡ false
  pub delegate : delegate_mentions word start.delegate_to ≡ false
  pub layers : layers_mention word start.layers ≡ false

pub unread : (word : List ℕ) (start : StartOf) → start_reads word start ≡ false → Unread word start
unread word start e =
    let all = neither (task_mentions word start.task || in_trees word (trees_of start.conditions)) (delegate_mentions word start.delegate_to || layers_mention word start.layers) e in
    let front = neither (task_mentions word start.task) (in_trees word (trees_of start.conditions)) all.0 in
    let behind = neither (delegate_mentions word start.delegate_to) (layers_mention word start.layers) all.1 in
    let own = neither (module_mentions word start.task.module || loop_mentions word start.task.looped) (result_names word start.task) front.0 in
    let done = neither (module_mentions word start.task.module) (loop_mentions word start.task.looped) own.0 in
    let nowhere = none_of (conditions_name word start.task.changed_when) (conditions_name word start.task.failed_when) (conditions_name word (until_of start.task.retrying)) own.1 in
    record {
      called = done.0;
      looped = done.1;
      changed = nowhere.0;
      failed = nowhere.1;
      conditions = front.1;
      delegate = behind.0;
      layers = behind.1;
    }

-- the two scopes of an item
apart_seen : (word : List ℕ) → bytes_eq [] word ≡ false → (start : StartOf) (magic variable seen : Map) → Unread word start → SameBut word start.magic magic →
    AreApart word (sees start.layers start.magic variable seen) (sees start.layers magic variable seen)
apart_seen word some start magic variable seen own same = scopes_apart word some start.layers start.magic magic variable seen own.layers same

with_conditions_step_own : (word : List ℕ) → bytes_eq [] word ≡ false → (start : StartOf) (magic variable : Map) → Unread word start → SameBut word start.magic magic → (step : Planned) →
    with_conditions_step start variable step ≡ with_conditions_step (with_magic start magic) variable step
with_conditions_step_own word some start magic variable own same (Decided result) =
    ap Decided
    (with_conditions_own word (sees start.layers start.magic variable) (sees start.layers magic variable) (λ seen. apart_seen word some start magic variable seen own same) start.task.register
    start.task.changed_when start.task.failed_when own.changed own.failed result)
with_conditions_step_own word some start magic variable own same (Sends call) = refl

-- what an item does, with its delegate
abbrev delegated : Planned → Option (List ℕ) → Step
delegated step delegate = (step, delegate)

step_of_own : (word : List ℕ) → bytes_eq [] word ≡ false → (start : StartOf) (magic variable : Map) → Unread word start → SameBut word start.magic magic →
    step_of start variable ≡ step_of (with_magic start magic) variable
step_of_own word some start magic variable own same =
    let apart = apart_seen word some start magic variable [] own same in
    ap
    (λ (r : Result Planned ItemFault). and_then r (λ done. map_ok (delegated (with_conditions_step start variable done)) (delegate_in (seen_by start variable) start.delegate_to)))
    (done_own word some start.has_facts_program (seen_by start variable) (seen_by (with_magic start magic) variable) apart start.task.module own.called)
    ∙ then_alike (done_by start.has_facts_program (seen_by (with_magic start magic) variable) start.task.module)
    (λ done. map_ok (delegated (with_conditions_step start variable done)) (delegate_in (seen_by start variable) start.delegate_to))
    (λ done. map_ok (delegated (with_conditions_step (with_magic start magic) variable done)) (delegate_in (seen_by (with_magic start magic) variable) start.delegate_to))
    (λ done.
    ap (λ (r : Result (Option (List ℕ)) ItemFault). map_ok (delegated (with_conditions_step start variable done)) r)
    (delegate_own word some (seen_by start variable) (seen_by (with_magic start magic) variable) apart start.delegate_to own.delegate)
    ∙ ap (λ (s : Planned). map_ok (delegated s) (delegate_in (seen_by (with_magic start magic) variable) start.delegate_to))
    (with_conditions_step_own word some start magic variable own same done))

step_if_own : (word : List ℕ) → bytes_eq [] word ≡ false → (start : StartOf) (magic variable : Map) → Unread word start → SameBut word start.magic magic → (b : Bool) →
    step_if start variable b ≡ step_if (with_magic start magic) variable b
step_if_own word some start magic variable own same true = step_of_own word some start magic variable own same
step_if_own word some start magic variable own same false = refl

step_own : (word : List ℕ) → bytes_eq [] word ≡ false → (start : StartOf) (magic variable : Map) → Unread word start → SameBut word start.magic magic →
    step_in start variable ≡ step_in (with_magic start magic) variable
step_own word some start magic variable own same =
    ap (λ (r : Result Bool EvalFault). and_then (evaluated r) (step_if start variable))
    (holds_own word (seen_by start variable) (seen_by (with_magic start magic) variable) (apart_seen word some start magic variable [] own same) start.conditions own.conditions)
    ∙ then_alike (evaluated (holds (seen_by (with_magic start magic) variable) start.conditions)) (step_if start variable) (step_if (with_magic start magic) variable)
    (step_if_own word some start magic variable own same)

item_own : (word : List ℕ) → bytes_eq [] word ≡ false → (start : StartOf) (magic : Map) → Unread word start → SameBut word start.magic magic → (value : Option Datum) →
    item_in start value ≡ item_in (with_magic start magic) value
unfolding item_in
item_own word some start magic own same value = ap (item_of value) (step_own word some start magic (loop_variable start.task.looped value) own same)

each_own : (f g : Option Datum → Item) → ((value : Option Datum) → f value ≡ g value) → (values : List Datum) → map (λ value. f (Some value)) values ≡ map (λ value. g (Some value)) values
each_own f g same [] = refl
each_own f g same (v ∷ vs) = rw (same (Some v), each_own f g same vs) refl

looped_own : (f g : Option Datum → Item) → ((value : Option Datum) → f value ≡ g value) → (r : Result (List Datum) ItemFault) → looped_items f r ≡ looped_items g r
looped_own f g same (Ok values) = each_own f g same values
looped_own f g same (Err fault) = refl

values_own : (word : List ℕ) → bytes_eq [] word ≡ false → (scope other : List Map) → AreApart word scope other → (over : Datum) → mentions word over ≡ false → values_of scope over ≡ values_of other over
unfolding values_of
values_own word some scope other apart over e = rw (value_own word some scope other apart over e) refl

by_loop : (word : List ℕ) → bytes_eq [] word ≡ false → (start : StartOf) (magic : Map) → Unread word start → SameBut word start.magic magic → (looped : Option Loop) →
    loop_mentions word looped ≡ false → items_by start looped ≡ items_by (with_magic start magic) looped
by_loop word some start magic own same None e = ap (λ (i : Item). i ∷ []) (item_own word some start magic own same None)
by_loop word some start magic own same (Some looped) e =
    ap (λ (r : Result (List Datum) ItemFault). looped_items (item_in start) r)
    (values_own word some (seen_by start []) (seen_by (with_magic start magic) []) (apart_seen word some start magic [] [] own same) looped.over e)
    ∙ looped_own (item_in start) (item_in (with_magic start magic)) (item_own word some start magic own same) (values_of (seen_by (with_magic start magic) []) looped.over)

-- the items of a task as it starts
pub items_own : (word : List ℕ) → bytes_eq [] word ≡ false → (start : StartOf) (magic : Map) → start_reads word start ≡ false → SameBut word start.magic magic →
    items_of start ≡ items_of (with_magic start magic)
unfolding items_of
items_own word some start magic e same = let own = unread word start e in by_loop word some start magic own same start.task.looped own.looped

-- a word with a letter isn't the empty one
pub some_letter : (word : List ℕ) → 0 < length word → bytes_eq [] word ≡ false
some_letter [] lt = absurd (omega (arith, lt))
some_letter (w ∷ ws) lt = refl

-- the items of two starts that differ in their magic variables alone
pub items_same : (word : List ℕ) → 0 < length word → (task : Task) (conditions : List Tree) (delegate_to : Option (List ℕ)) (layers : List Map) → may_read word task conditions delegate_to layers ≡ false →
    (program : Bool) (magic other : Map) → SameBut word magic other →
    items_of (start_from task conditions delegate_to program layers magic) ≡ items_of (start_from task conditions delegate_to program layers other)
items_same word lt task conditions delegate_to layers e program magic other same =
    items_own word (some_letter word lt) (start_from task conditions delegate_to program layers magic) other e same
