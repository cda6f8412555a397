-- Whom a task notifies as it ends, and which of these handlers were not pending before
-- (Ansible's documentation, "Handlers: running operations on change").
use Rattle.std.specs.Prelude.{ℕ, ◌==◌, Bool, false, ◌&&◌, not, List, [], Option, None, filter, slice_get, if◌then◌else◌}
use Rattle.std.specs.Option.{option_map_or}
use Rattle.pb_planes.specs.Set.{is_in as is_marked}
use Rattle.pb_task_vars.specs.FromPlaces.{PlaceOf}
use Rattle.pb_task_vars.specs.FromPlan.{PlayOf}
use Rattle.pb_host.specs.Ends.{does_notify}
use Rattle.pb_host.specs.declared.step_result.TaskEnd.{TaskEnd}

-- what a place says of handlers: those that its task names, by their numbers in order, and the one whose own place it is; a place without a task says
-- nothing
abbrev pub named_at : PlayOf → ℕ → List ℕ
named_at play p = option_map_or (λ (place : PlaceOf). place.notifies) (slice_get play.places p) []

abbrev pub handler_at : PlayOf → ℕ → Option ℕ
handler_at play p = option_map_or (λ (place : PlaceOf). place.handler) (slice_get play.places p) None

-- the handlers that the task at a place notifies as it ends so
abbrev pub notified_by : PlayOf → ℕ → TaskEnd → List ℕ
notified_by play p task = if does_notify task.result then named_at play p else []

-- Whether a handler is pending with these marks, once the handler with the number `own` has run: that one isn't, so that it is notified again where it
-- notifies itself.
abbrev pub is_own : Option ℕ → ℕ → Bool
is_own own handler = option_map_or (λ h. h == handler) own false

abbrev pub is_pending : List Bool → Option ℕ → ℕ → Bool
is_pending marks own handler = not (is_own own handler) && is_marked marks handler

-- those of these handlers that are not pending yet
abbrev pub newly : List Bool → Option ℕ → List ℕ → List ℕ
newly marks own handlers = filter (λ handler. not (is_pending marks own handler)) handlers

-- those of the handlers that the task at a place notifies as it ends so that were not pending with these marks
abbrev pub newly_at : PlayOf → ℕ → List Bool → TaskEnd → List ℕ
newly_at play p marks task = newly marks (handler_at play p) (notified_by play p task)
