-- Each attempt at an item comes to the same, whatever stands under a name that its task doesn't read there; and where the task says nothing, the result
-- stays.
use Rattle.std.proofs.Common.{◌≡◌, ℕ, ◌<◌, Bool, true, false, ◌&&◌, ◌||◌, List, length, Option, Some, None, refl, ap, true≢false}
use Rattle.std.specs.Prelude.{is_some}
use Rattle.pb_expr_syntax.specs.Tree.{Tree}
use Rattle.pb_layers.specs.Scope.{Map}
use Rattle.pb_items.specs.FromConditions.{Sees, sees, with_conditions_by, Ends}
use Rattle.pb_outcome.specs.declared.gather.Ending.{Ending}
use Rattle.pb_outcome.specs.declared.gather.Ending.TheVariants.{Skipped, Faulty, Unreachable, NotStarted, Ran}
use Rattle.pb_outcome.specs.declared.gather.ItemResult.{ItemResult}
use Rattle.pb_play.specs.declared.retrying.Retrying.{Retrying}
use Rattle.pb_play.specs.declared.task.Task.{Task}
use Rattle.pb_items.specs.Items.{StartOf, attempted_by}
use Rattle.pb_items.specs.Loops.{loop_variable}
use Rattle.pb_reach.specs.Apart.{SameBut}
use Rattle.pb_reach.specs.Reach.{conditions_name, result_names, conditions_reach, result_reaches, layers_mention, may_read_of_result, with_magic}
use Rattle.pb_reach.specs.ResultConditions.{has_result_conditions, until_of, LeavesResults}
use Rattle.pb_reach.proofs.OwnItems.{HoldAlike, tried_alike, tried_own, some_letter}
use Rattle.pb_reach.proofs.Stored.{scopes_apart}
use Rattle.pb_reach.proofs.Tests.{neither, none_of}
use Rattle.pb_reach.proofs.Unreached.{holds_unreached}

-- without `changed_when` and `failed_when` a result stays, however it ended
without_conditions_by : (ending : Ending) (sight : Sees) (register : Option (List ℕ)) (result : ItemResult) → with_conditions_by ending sight register None None result ≡ result
without_conditions_by (Ran changed failed) sight register result = refl
without_conditions_by Skipped sight register result = refl
without_conditions_by Faulty sight register result = refl
without_conditions_by Unreachable sight register result = refl
without_conditions_by NotStarted sight register result = refl

-- and without retries its item ends
nothing_said : (changed failed : Option (List Tree)) (retrying : Option Retrying) → (is_some changed || is_some failed || is_some retrying) ≡ false → (start : StartOf) (variable : Map) (attempt : ℕ)
    (result : ItemResult) → start.task.changed_when ≡ changed → start.task.failed_when ≡ failed → attempted_by retrying start variable attempt result ≡ Ends result
nothing_said None None None e start variable attempt result c f =
    rw (c, f) (ap Ends (without_conditions_by result.ending (sees start.layers start.magic variable) start.task.register result))
nothing_said None None (Some retrying) e start variable attempt result c f = absurd (true≢false e)
nothing_said None (Some conditions) retrying e start variable attempt result c f = absurd (true≢false e)
nothing_said (Some conditions) failed retrying e start variable attempt result c f = absurd (true≢false e)

pub without_conditions : (task : Task) → has_result_conditions task ≡ false → LeavesResults task
without_conditions task silent = λ start value attempt result t.
    nothing_said start.task.changed_when start.task.failed_when start.task.retrying (rw t silent) start (loop_variable start.task.looped value) attempt result refl refl

-- conditions that don't have the word, and reach no template, hold alike
unreached : (word : List ℕ) (layers : List Map) (magic other variable : Map) → SameBut word magic other → (conditions : Option (List Tree)) → conditions_name word conditions ≡ false →
    conditions_reach layers conditions ≡ false → HoldAlike (sees layers magic variable) (sees layers other variable) conditions
unreached word layers magic other variable same None e g = tt
unreached word layers magic other variable same (Some cs) e g = λ seen. holds_unreached word layers magic other variable seen same cs e g

-- an attempt in two scopes that differ in their magic variables alone
pub attempts_same : (word : List ℕ) → 0 < length word → (start : StartOf) → may_read_of_result word start.task start.layers ≡ false → (other variable : Map) (attempt : ℕ) (result : ItemResult) →
    SameBut word start.magic other → attempted_by start.task.retrying start variable attempt result ≡ attempted_by start.task.retrying (with_magic start other) variable attempt result
attempts_same word lt start e other variable attempt result same = by_reach (result_reaches start.layers start.task) refl own.0 own.1
  where
    own : (result_names word start.task ≡ false) × ((result_reaches start.layers start.task && layers_mention word start.layers) ≡ false)
    own = neither (result_names word start.task) (result_reaches start.layers start.task && layers_mention word start.layers) e

    by_reach : (r : Bool) → result_reaches start.layers start.task ≡ r → result_names word start.task ≡ false → (r && layers_mention word start.layers) ≡ false →
        attempted_by start.task.retrying start variable attempt result ≡ attempted_by start.task.retrying (with_magic start other) variable attempt result
    by_reach false is f g =
        let names = none_of (conditions_name word start.task.changed_when) (conditions_name word start.task.failed_when) (conditions_name word (until_of start.task.retrying)) f in
        let reaches = none_of (conditions_reach start.layers start.task.changed_when) (conditions_reach start.layers start.task.failed_when) (conditions_reach start.layers (until_of start.task.retrying)) is in
        let alike = unreached word start.layers start.magic other variable same in
        tried_alike start.task.retrying start other variable (alike start.task.changed_when names.0 reaches.0) (alike start.task.failed_when names.1 reaches.1)
        (alike (until_of start.task.retrying) names.2 reaches.2) attempt result
    by_reach true is f g =
        let names = none_of (conditions_name word start.task.changed_when) (conditions_name word start.task.failed_when) (conditions_name word (until_of start.task.retrying)) f in
        tried_own word start other variable (λ seen. scopes_apart word (some_letter word lt) start.layers start.magic other variable seen g same) names.0 names.1 names.2 attempt result
