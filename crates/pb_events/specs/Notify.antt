-- The lines of the handlers that a task notified (Ansible's documentation, "Callback plugins": `playbook_on_notify`).
use Rattle.std.specs.Prelude.{ℕ, ◌+◌, ◌-◌, pos, List, [], ◌∷◌, ◌++◌, codes, slice_get, Option, Some, None}
use Rattle.std.specs.Option.{option_map_or}
use Rattle.pb_value.specs.Datum.{text, int}
use Rattle.pb_tree.specs.Tree.{TreeOf, size_of}
use Rattle.pb_places.specs.Place.{PlaceOf}
use Rattle.pb_plan.specs.Plan.{PlayOf}
use Rattle.pb_host.specs.declared.step_result.TaskDone.{TaskDone}
use Rattle.pb_events.specs.Line.{line}

-- the name of a handler: it stands at the handler's place in the last Flush of the play, which has a place for each handler and is the play's end
abbrev pub last_place : TreeOf → ℕ → ℕ
last_place tree handler = size_of tree - tree.handlers + handler

abbrev pub handler_name : PlayOf → ℕ → List ℕ
handler_name play handler = option_map_or (λ (place : PlaceOf). place.task.name) (slice_get play.places (last_place play.tree handler)) []

-- a handler that was not pending before
abbrev pub notify_line : List ℕ → List ℕ → ℕ → List ℕ
notify_line host name play =
    line ((codes "event", text (codes "playbook_on_notify")) ∷ (codes "handler", text name) ∷ (codes "host", text host) ∷ (codes "play", int (pos play)) ∷ [])

-- a line for each of these handlers, on the host with this name, in the play with this number
abbrev pub notify_lines : List ℕ → PlayOf → ℕ → List ℕ → List ℕ
notify_lines host play number [] = []
notify_lines host play number (handler ∷ handlers) = notify_line host (handler_name play handler) number ++ notify_lines host play number handlers

-- none as long as the task waits for a job
abbrev pub notify_text : List ℕ → PlayOf → ℕ → Option TaskDone → List ℕ
notify_text host play number None = []
notify_text host play number (Some done) = notify_lines host play number done.notified
