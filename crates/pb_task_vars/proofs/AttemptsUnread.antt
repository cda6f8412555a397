-- A task that says nothing of a result leaves it as it came back, whatever it would see.
use Rattle.std.proofs.Common.{◌≡◌, ℕ, Bool, List, Option, sym, ◌∙◌}
use Rattle.pb_value.specs.Datum.{Datum}
use Rattle.pb_layers.specs.Scope.{Map}
use Rattle.pb_items.specs.FromConditions.{Ends}
use Rattle.pb_items.specs.Items.{attempted_item}
use Rattle.pb_outcome.specs.declared.gather.ItemResult.{ItemResult}
use Rattle.pb_places.specs.Place.{PlaceOf}
use Rattle.pb_play.specs.declared.task.Task.{Task}
use Rattle.pb_reach.specs.ResultConditions.{LeavesResults}
use Rattle.pb_task_vars.specs.Results.{start_with}

pub left_alone : (program : Bool) (place : PlaceOf) (seen : List Map) (magic : Map) (task : Task) (value : Option Datum) (attempt : ℕ) (item : ItemResult) → task ≡ place.task → LeavesResults task →
    attempted_item (start_with program place seen magic) value attempt item ≡ Ends item
unfolding start_with
left_alone program place seen magic task value attempt item t leaves = leaves (start_with program place seen magic) value attempt item (sym t)

-- so it says the same whatever the magic variables are
pub attempts_alike : (program : Bool) (place : PlaceOf) (seen : List Map) (task : Task) (one other : Map) (value : Option Datum) (attempt : ℕ) (item : ItemResult) → task ≡ place.task → LeavesResults task →
    attempted_item (start_with program place seen one) value attempt item ≡ attempted_item (start_with program place seen other) value attempt item
attempts_alike program place seen task one other value attempt item t leaves =
    left_alone program place seen one task value attempt item t leaves ∙ sym (left_alone program place seen other task value attempt item t leaves)
