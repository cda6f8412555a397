-- What comes back of an attempt, in its parts.
use Rattle.std.proofs.Common.{◌≡◌, ◌∙◌, ℕ, List, ap}
use Rattle.std.specs.Prelude.{Option, Some, None, slice_get}
use Rattle.std.specs.Option.{option_map_or}
use Rattle.pb_conditions.specs.declared.attempt.Back.{Back}
use Rattle.pb_conditions.specs.declared.attempt.Back.TheVariants.{Ends}
use Rattle.pb_facts.specs.Facts.{FactsOf}
use Rattle.pb_outcome.specs.declared.gather.ItemResult.{ItemResult}
use Rattle.pb_outcome.specs.declared.item.Item.{Item}
use Rattle.pb_outcome.specs.declared.job.Call.{Call}
use Rattle.pb_outcome.specs.declared.outcome.Form.{Form}
use Rattle.pb_outcome.specs.Results.{judged}
use Rattle.pb_task_vars.specs.FromPlan.{PlayOf, PlanOf}
use Rattle.pb_task_vars.specs.Results.{came_at}
use Rattle.pb_host.specs.Attempts.{attempt_after}
use Rattle.pb_host.specs.Back.{came_in}
use Rattle.pb_host.specs.Host.{came_back}

-- an item that came back is judged, and then its attempt comes to what its task says of it
pub came_as : (plan : PlanOf) (play : PlayOf) (h : ℕ) (facts : FactsOf) (p : ℕ) (outcome : Form) (items : List Item) (n : ℕ) (item : Item) (call : Call) (result : ItemResult) (back : Back)
    → result ≡ judged call outcome → back ≡ came_in plan play h facts p items n result → slice_get items n ≡ Some item → back ≡ came_back plan play h facts p outcome item call
came_as plan play h facts p outcome items n item call result back j s there =
    s
    ∙ ap (λ (found : Option Item). option_map_or (λ (i : Item). came_at plan play h facts p i.value (attempt_after i.tried) result) found (Ends result)) there
    ∙ ap (λ (r : ItemResult). came_at plan play h facts p item.value (attempt_after item.tried) r) j
