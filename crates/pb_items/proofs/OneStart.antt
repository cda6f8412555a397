-- A task that looks nothing up has the same items whatever variables it sees.
use Rattle.std.proofs.Common.{◌≡◌, ◌∙◌, ℕ, Bool, true, false, ◌&&◌, ◌==◌, List, [], ◌∷◌, Option, Some, None, Result, Ok, Err, length, refl, ap, sym, true≢false, arith}
use Rattle.std.specs.Prelude.{is_none}
use Rattle.std.proofs.lemmas.Bool.{eqb-true}
use Rattle.pb_value.specs.Datum.{Datum, members_of, dict}
use Rattle.pb_value.specs.Reading.{and_then, map_ok}
use Rattle.pb_layers.specs.Scope.{Map}
use Rattle.pb_expr_syntax.specs.Tree.{Tree}
use Rattle.pb_expr_eval.specs.Scoped.{names_in, max_look_ups, rendered_of}
use Rattle.pb_expr_eval.proofs.Unrendered.{plain_rendered}
use Rattle.pb_operators.specs.Values.{finished}
use Rattle.pb_conditions.specs.Conditions.{holds}
use Rattle.pb_conditions.specs.ResultConditions.{Sees, sees, with_conditions_by}
use Rattle.pb_outcome.specs.Decided.{debug_result, fail_result}
use Rattle.pb_outcome.specs.Results.{facts_result}
use Rattle.pb_outcome.specs.declared.gather.Ending.{Ending}
use Rattle.pb_outcome.specs.declared.gather.Ending.TheVariants.{Skipped, Faulty, Unreachable, NotStarted, Ran}
use Rattle.pb_outcome.specs.declared.gather.ItemResult.{ItemResult}
use Rattle.pb_outcome.specs.declared.item.Planned.{Planned}
use Rattle.pb_outcome.specs.declared.item.Planned.TheVariants.{Decided, Sends}
use Rattle.pb_play.specs.declared.modules.Module.{Module}
use Rattle.pb_play.specs.declared.modules.Module.TheVariants.{Assert, Command, Debug, DebugVar, Fail, Meta, SetFact, Setup, Shell}
use Rattle.pb_template.specs.Plain.{is_plain, members_plain}
use Rattle.pb_items.specs.Constant.{is_constant_module, has_no_conditions, is_constant, seeing}
use Rattle.pb_items.specs.Facts.{facts_of}
use Rattle.pb_items.specs.Faults.{evaluated}
use Rattle.pb_items.specs.Items.{StartOf, Step, seen_by, delegate_in, with_conditions_step, step_if, step_in, item_of, item_in, items_by, items_of}
use Rattle.pb_items.specs.Loops.{loop_variable}
use Rattle.pb_items.specs.Planning.{done_by}
use Rattle.pb_items.specs.declared.fault.ItemFault.{ItemFault}

both : (x y : Bool) → (x && y) ≡ true → (x ≡ true) × (y ≡ true)
both true y e = (refl, e)
both false y e = absurd (true≢false (sym e))

nothing_in : (trees : List Tree) → (length trees == 0) ≡ true → trees ≡ []
nothing_in [] e = refl
nothing_in (t ∷ ts) e = absurd (omega (arith, eqb-true (length (t ∷ ts)) 0 e))

absent : {A : Type 0} → (o : Option A) → is_none o ≡ true → o ≡ None
absent None e = refl
absent (Some x) e = absurd (true≢false (sym e))

-- ---- what a module does
plain_alike : (scope other : List Map) (d : Datum) → is_plain d ≡ true → rendered_of scope d ≡ rendered_of other d
unfolding rendered_of
plain_alike scope other d plain =
    ap (λ r. and_then r finished) (plain_rendered (names_in scope max_look_ups) d plain ∙ sym (plain_rendered (names_in other max_look_ups) d plain))

facts_alike : (scope other : List Map) (facts : Map) → members_plain (members_of facts) ≡ true → facts_of scope facts ≡ facts_of other facts
facts_alike scope other [] plain = refl
facts_alike scope other (m ∷ ms) plain =
    let each = both (is_plain m.1) (members_plain (members_of ms)) plain in
    ap (λ r. and_then (evaluated r) (λ v. map_ok (λ rest. (m.0, v) ∷ rest) (facts_of scope ms))) (plain_alike scope other m.1 each.0)
    ∙ ap (λ rs. and_then (evaluated (rendered_of other m.1)) (λ v. map_ok (λ rest. (m.0, v) ∷ rest) rs)) (facts_alike scope other ms each.1)

done_alike : (program : Bool) (scope other : List Map) (called : Module) → is_constant_module called ≡ true → done_by program scope called ≡ done_by program other called
unfolding done_by
done_alike program scope other (Debug msg) plain = ap (λ r. map_ok (λ v. Decided (debug_result v)) (evaluated r)) (plain_alike scope other msg plain)
done_alike program scope other (Fail msg) plain = ap (λ r. map_ok (λ v. Decided (fail_result v)) (evaluated r)) (plain_alike scope other msg plain)
done_alike program scope other (Meta meta) plain = refl
done_alike program scope other (SetFact facts) plain = ap (map_ok (λ fs. Decided (facts_result (dict (members_of fs))))) (facts_alike scope other facts plain)
done_alike program scope other Setup plain = refl
done_alike program scope other (Assert that fail_msg success_msg) plain = absurd (true≢false (sym plain))
done_alike program scope other (Command words) plain = absurd (true≢false (sym plain))
done_alike program scope other (DebugVar name expr) plain = absurd (true≢false (sym plain))
done_alike program scope other (Shell cmd) plain = absurd (true≢false (sym plain))

-- ---- a task without conditions and delegate, which says nothing of a result
without_conditions : (ending : Ending) (sight : Sees) (register : Option (List ℕ)) (result : ItemResult) → with_conditions_by ending sight register None None result ≡ result
without_conditions (Ran changed failed) sight register result = refl
without_conditions Skipped sight register result = refl
without_conditions Faulty sight register result = refl
without_conditions Unreachable sight register result = refl
without_conditions NotStarted sight register result = refl

stays : (start : StartOf) (variable : Map) (step : Planned) → start.task.changed_when ≡ None → start.task.failed_when ≡ None → with_conditions_step start variable step ≡ step
stays start variable (Decided item) c f = rw (c, f) (ap Decided (without_conditions item.ending (sees start.layers start.magic variable) start.task.register item))
stays start variable (Sends call) c f = refl

-- a step with its delegate, and what an item does, by what its module does
abbrev sent_to : Planned → Result (Option (List ℕ)) ItemFault → Result Step ItemFault
sent_to step to = map_ok (λ delegate. (step, delegate)) to

abbrev delegated : StartOf → Map → Result Planned ItemFault → Result Step ItemFault
delegated start variable done = and_then done (λ step. sent_to (with_conditions_step start variable step) (delegate_in (seen_by start variable) start.delegate_to))

abbrev alone : Result Planned ItemFault → Result Step ItemFault
alone done = and_then done (λ step. Ok (step, None))

undelegated : (start : StartOf) (variable : Map) (done : Result Planned ItemFault) → start.task.changed_when ≡ None → start.task.failed_when ≡ None → start.delegate_to ≡ None →
    delegated start variable done ≡ alone done
undelegated start variable (Err fault) c f d = refl
undelegated start variable (Ok step) c f d =
    ap (λ to. sent_to (with_conditions_step start variable step) (delegate_in (seen_by start variable) to)) d ∙ ap (λ new_step. sent_to new_step (Ok None)) (stays start variable step c f)

-- what its module does is all of it
step_alone : (start : StartOf) (variable : Map) → start.conditions ≡ [] → start.task.changed_when ≡ None → start.task.failed_when ≡ None → start.delegate_to ≡ None →
    step_in start variable ≡ alone (done_by start.has_facts_program (seen_by start variable) start.task.module)
step_alone start variable n c f d =
    ap (λ trees. and_then (evaluated (holds (seen_by start variable) trees)) (step_if start variable)) n
    ∙ undelegated start variable (done_by start.has_facts_program (seen_by start variable) start.task.module) c f d

step_alike : (start : StartOf) (layers : List Map) (magic variable : Map) → start.conditions ≡ [] → start.task.changed_when ≡ None → start.task.failed_when ≡ None → start.delegate_to ≡ None →
    is_constant_module start.task.module ≡ true → step_in start variable ≡ step_in (seeing start layers magic) variable
step_alike start layers magic variable n c f d plain =
    let other = seeing start layers magic in
    step_alone start variable n c f d
    ∙ ap alone (done_alike start.has_facts_program (seen_by start variable) (seen_by other variable) start.task.module plain)
    ∙ sym (step_alone other variable n c f d)

-- and one item is all that a task without a loop has
pub one_start : (start : StartOf) → is_constant start.task start.conditions start.delegate_to ≡ true → (layers : List Map) (magic : Map) → items_of start ≡ items_of (seeing start layers magic)
unfolding items_of item_in
one_start start e layers magic =
    let other = seeing start layers magic in
    let all = both (is_none start.task.looped && is_none start.delegate_to) (has_no_conditions start.task start.conditions && is_constant_module start.task.module) e in
    let alone = both (is_none start.task.looped) (is_none start.delegate_to) all.0 in
    let rest = both (has_no_conditions start.task start.conditions) (is_constant_module start.task.module) all.1 in
    let bare = both (length start.conditions == 0) (is_none start.task.changed_when && is_none start.task.failed_when) rest.0 in
    let silent = both (is_none start.task.changed_when) (is_none start.task.failed_when) bare.1 in
    let looped = absent start.task.looped alone.0 in
    ap (items_by start) looped
    ∙ ap (λ step. item_of None step ∷ [])
    (step_alike start layers magic (loop_variable start.task.looped None) (nothing_in start.conditions bare.0) (absent start.task.changed_when silent.0)
    (absent start.task.failed_when silent.1) (absent start.delegate_to alone.1) rest.1)
    ∙ sym (ap (items_by other) looped)
