-- A task has the same items, and says the same of each result, whatever stands under a name that it doesn't name in an expression.
use Rattle.std.proofs.Common.{◌≡◌, ℕ, Bool, true, false, ◌||◌, List, [], ◌∷◌, map, Option, Some, None, Result, Ok, Err, refl, ap, ◌∙◌}
use Rattle.pb_value.specs.Datum.{Datum, text, items_of as row_of, members_of}
use Rattle.pb_value.specs.Reading.{and_then, map_ok}
use Rattle.pb_expr_syntax.specs.Tree.{Tree, trees_of}
use Rattle.pb_layers.specs.Scope.{Map}
use Rattle.pb_operators.specs.declared.fault.EvalFault.{EvalFault}
use Rattle.pb_conditions.specs.Conditions.{holds}
use Rattle.pb_conditions.specs.ResultConditions.{sees}
use Rattle.pb_outcome.specs.declared.gather.ItemResult.{ItemResult}
use Rattle.pb_outcome.specs.declared.item.Item.{Item}
use Rattle.pb_outcome.specs.declared.item.Planned.{Planned}
use Rattle.pb_outcome.specs.declared.item.Planned.TheVariants.{Decided, Sends}
use Rattle.pb_play.specs.declared.commands.CommandWords.{CommandWords}
use Rattle.pb_play.specs.declared.commands.CommandWords.TheVariants.{Line, Argv}
use Rattle.pb_play.specs.declared.loops.Loop.{Loop}
use Rattle.pb_play.specs.declared.modules.Module.{Module}
use Rattle.pb_play.specs.declared.modules.Module.TheVariants.{Assert, Command, Debug, DebugVar, Fail, Meta, SetFact, Setup, Shell}
use Rattle.pb_reach.specs.FromItems.{words_in, command_in, facts_of, evaluated, StartOf, Step, seen_by, delegate_in, attempted_by, with_conditions_step, step_of, step_if, step_in, item_of, item_in}
use Rattle.pb_reach.specs.FromItems.{looped_items, items_by, items_of, loop_variable, values_of, done_by, ItemFault}
use Rattle.pb_reach.specs.Apart.{SameBut, AreApart}
use Rattle.pb_reach.specs.Named.{in_tree, in_trees, in_value, in_items, in_members}
use Rattle.pb_reach.specs.Reach.{conditions_name, with_magic}
use Rattle.pb_reach.proofs.Alike.{then_alike, eval_alike, rendered_apart}
use Rattle.pb_reach.specs.ResultConditions.{until_of}
use Rattle.pb_reach.proofs.OwnItems.{with_conditions_own, tried_own}
use Rattle.pb_reach.proofs.Tests.{neither}
use Rattle.pb_independence.specs.Independent.{words_name, module_names, loop_names, delegate_names}
use Rattle.pb_independence.proofs.Scopes.{layers_name, scopes_apart}

-- conditions, and what is read of a module
holds_own : (word : List ℕ) (scope other : List Map) → AreApart word scope other → (cs : List Tree) → in_trees word (trees_of cs) ≡ false → holds scope cs ≡ holds other cs
holds_own word scope other apart [] e = refl
holds_own word scope other apart (c ∷ cs) e =
    let both = neither (in_tree word c) (in_trees word (trees_of cs)) e in
    rw (eval_alike word scope other apart c both.0, holds_own word scope other apart cs both.1) refl

words_own : (word : List ℕ) (scope other : List Map) → AreApart word scope other → (ds : List Datum) → in_items word (row_of ds) ≡ false →
    words_in scope ds ≡ words_in other ds
words_own word scope other apart [] e = refl
words_own word scope other apart (d ∷ ds) e =
    let both = neither (in_value word d) (in_items word (row_of ds)) e in
    rw (rendered_apart word scope other apart d both.0, words_own word scope other apart ds both.1) refl

command_own : (word : List ℕ) (scope other : List Map) → AreApart word scope other → (words : CommandWords) → words_name word words ≡ false →
    command_in scope words ≡ command_in other words
command_own word scope other apart (Line line) e = rw (rendered_apart word scope other apart (text line) e) refl
command_own word scope other apart (Argv argv) e = rw (words_own word scope other apart argv e) refl

facts_own : (word : List ℕ) (scope other : List Map) → AreApart word scope other → (m : Map) → in_members word (members_of m) ≡ false → facts_of scope m ≡ facts_of other m
facts_own word scope other apart [] e = refl
facts_own word scope other apart (m ∷ ms) e =
    let both = neither (in_value word m.1) (in_members word (members_of ms)) e in
    rw (rendered_apart word scope other apart m.1 both.0, facts_own word scope other apart ms both.1) refl

done_own : (word : List ℕ) (program : Bool) (scope other : List Map) → AreApart word scope other → (called : Module) → module_names word called ≡ false →
    done_by program scope called ≡ done_by program other called
unfolding done_by
done_own word program scope other apart (Assert that fail_msg success_msg) e =
    let first = neither (in_trees word (trees_of that) || in_value word fail_msg) (in_value word success_msg) e in
    let both = neither (in_trees word (trees_of that)) (in_value word fail_msg) first.0 in
    rw (holds_own word scope other apart that both.0, rendered_apart word scope other apart fail_msg both.1, rendered_apart word scope other apart success_msg first.1) refl
done_own word program scope other apart (Command words) e = rw (command_own word scope other apart words e) refl
done_own word program scope other apart (Debug msg) e = rw (rendered_apart word scope other apart msg e) refl
done_own word program scope other apart (DebugVar name expr) e = rw (eval_alike word scope other apart expr e) refl
done_own word program scope other apart (Fail msg) e = rw (rendered_apart word scope other apart msg e) refl
done_own word program scope other apart (Meta meta) e = refl
done_own word program scope other apart (SetFact facts) e = rw (facts_own word scope other apart facts e) refl
done_own word program scope other apart Setup e = refl
done_own word program scope other apart (Shell cmd) e = rw (rendered_apart word scope other apart (text cmd) e) refl

-- to whom an item is delegated
delegate_own : (word : List ℕ) (scope other : List Map) → AreApart word scope other → (to : Option (List ℕ)) → delegate_names word to ≡ false →
    delegate_in scope to ≡ delegate_in other to
delegate_own word scope other apart None e = refl
delegate_own word scope other apart (Some template) e = rw (rendered_apart word scope other apart (text template) e) refl

-- what a start doesn't name, part by part
pub record Unread (word : List ℕ) (start : StartOf) : Type 0 where
  pub called : module_names word start.task.module ≡ false
  pub looped : loop_names word start.task.looped ≡ false
  pub changed : conditions_name word start.task.changed_when ≡ false
  pub failed : conditions_name word start.task.failed_when ≡ false
  pub until : conditions_name word (until_of start.task.retrying) ≡ false
  pub conditions : in_trees word (trees_of start.conditions) ≡ false
  pub delegate : delegate_names word start.delegate_to ≡ false
  pub layers : layers_name word start.layers ≡ false

-- the two scopes of an item
apart_seen : (word : List ℕ) (start : StartOf) (magic variable seen : Map) → Unread word start → SameBut word start.magic magic →
    AreApart word (sees start.layers start.magic variable seen) (sees start.layers magic variable seen)
apart_seen word start magic variable seen own same = scopes_apart word start.layers start.magic magic variable seen own.layers same

with_conditions_step_own : (word : List ℕ) (start : StartOf) (magic variable : Map) → Unread word start → SameBut word start.magic magic → (step : Planned) →
    with_conditions_step start variable step ≡ with_conditions_step (with_magic start magic) variable step
with_conditions_step_own word start magic variable own same (Decided result) =
    ap Decided
    (with_conditions_own word (sees start.layers start.magic variable) (sees start.layers magic variable) (λ seen. apart_seen word start magic variable seen own same) start.task.register
    start.task.changed_when start.task.failed_when own.changed own.failed result)
with_conditions_step_own word start magic variable own same (Sends call) = refl

-- what an item does, with its delegate
abbrev delegated : Planned → Option (List ℕ) → Step
delegated step delegate = (step, delegate)

step_of_own : (word : List ℕ) (start : StartOf) (magic variable : Map) → Unread word start → SameBut word start.magic magic →
    step_of start variable ≡ step_of (with_magic start magic) variable
step_of_own word start magic variable own same =
    let apart = apart_seen word start magic variable [] own same in
    ap
    (λ (r : Result Planned ItemFault). and_then r (λ done. map_ok (delegated (with_conditions_step start variable done)) (delegate_in (seen_by start variable) start.delegate_to)))
    (done_own word start.has_facts_program (seen_by start variable) (seen_by (with_magic start magic) variable) apart start.task.module own.called)
    ∙ then_alike (done_by start.has_facts_program (seen_by (with_magic start magic) variable) start.task.module)
    (λ done. map_ok (delegated (with_conditions_step start variable done)) (delegate_in (seen_by start variable) start.delegate_to))
    (λ done. map_ok (delegated (with_conditions_step (with_magic start magic) variable done)) (delegate_in (seen_by (with_magic start magic) variable) start.delegate_to))
    (λ done.
    ap (λ (r : Result (Option (List ℕ)) ItemFault). map_ok (delegated (with_conditions_step start variable done)) r)
    (delegate_own word (seen_by start variable) (seen_by (with_magic start magic) variable) apart start.delegate_to own.delegate)
    ∙ ap (λ (s : Planned). map_ok (delegated s) (delegate_in (seen_by (with_magic start magic) variable) start.delegate_to))
    (with_conditions_step_own word start magic variable own same done))

step_if_own : (word : List ℕ) (start : StartOf) (magic variable : Map) → Unread word start → SameBut word start.magic magic → (b : Bool) →
    step_if start variable b ≡ step_if (with_magic start magic) variable b
step_if_own word start magic variable own same true = step_of_own word start magic variable own same
step_if_own word start magic variable own same false = refl

step_own : (word : List ℕ) (start : StartOf) (magic variable : Map) → Unread word start → SameBut word start.magic magic →
    step_in start variable ≡ step_in (with_magic start magic) variable
step_own word start magic variable own same =
    ap (λ (r : Result Bool EvalFault). and_then (evaluated r) (step_if start variable))
    (holds_own word (seen_by start variable) (seen_by (with_magic start magic) variable) (apart_seen word start magic variable [] own same) start.conditions own.conditions)
    ∙ then_alike (evaluated (holds (seen_by (with_magic start magic) variable) start.conditions)) (step_if start variable) (step_if (with_magic start magic) variable)
    (step_if_own word start magic variable own same)

item_own : (word : List ℕ) (start : StartOf) (magic : Map) → Unread word start → SameBut word start.magic magic → (value : Option Datum) →
    item_in start value ≡ item_in (with_magic start magic) value
unfolding item_in
item_own word start magic own same value = ap (item_of value) (step_own word start magic (loop_variable start.task.looped value) own same)

each_own : (f g : Option Datum → Item) → ((value : Option Datum) → f value ≡ g value) → (values : List Datum) → map (λ value. f (Some value)) values ≡ map (λ value. g (Some value)) values
each_own f g same [] = refl
each_own f g same (v ∷ vs) = rw (same (Some v), each_own f g same vs) refl

looped_own : (f g : Option Datum → Item) → ((value : Option Datum) → f value ≡ g value) → (r : Result (List Datum) ItemFault) → looped_items f r ≡ looped_items g r
looped_own f g same (Ok values) = each_own f g same values
looped_own f g same (Err fault) = refl

values_own : (word : List ℕ) (scope other : List Map) → AreApart word scope other → (over : Datum) → in_value word over ≡ false → values_of scope over ≡ values_of other over
unfolding values_of
values_own word scope other apart over e = rw (rendered_apart word scope other apart over e) refl

by_loop : (word : List ℕ) (start : StartOf) (magic : Map) → Unread word start → SameBut word start.magic magic → (looped : Option Loop) →
    loop_names word looped ≡ false → items_by start looped ≡ items_by (with_magic start magic) looped
by_loop word start magic own same None e = ap (λ (i : Item). i ∷ []) (item_own word start magic own same None)
by_loop word start magic own same (Some looped) e =
    ap (λ (r : Result (List Datum) ItemFault). looped_items (item_in start) r)
    (values_own word (seen_by start []) (seen_by (with_magic start magic) []) (apart_seen word start magic [] [] own same) looped.over e)
    ∙ looped_own (item_in start) (item_in (with_magic start magic)) (item_own word start magic own same) (values_of (seen_by (with_magic start magic) []) looped.over)

-- the items of a task as it starts
pub items_own : (word : List ℕ) (start : StartOf) (magic : Map) → Unread word start → SameBut word start.magic magic → items_of start ≡ items_of (with_magic start magic)
unfolding items_of
items_own word start magic own same = by_loop word start magic own same start.task.looped own.looped

-- and what it says of an attempt
pub attempts_own : (word : List ℕ) (start : StartOf) (magic variable : Map) → Unread word start → SameBut word start.magic magic → (attempt : ℕ) (result : ItemResult) →
    attempted_by start.task.retrying start variable attempt result ≡ attempted_by start.task.retrying (with_magic start magic) variable attempt result
attempts_own word start magic variable own same attempt result =
    tried_own word start magic variable (λ seen. apart_seen word start magic variable seen own same) own.changed own.failed own.until attempt result
