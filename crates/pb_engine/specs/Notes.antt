-- Which handlers are pending on a host, known from all that happened there in the open batch: a handler is pending where a task notified it, and behind
-- that it hasn't run (Ansible's documentation, "Handlers: running operations on change").
use Rattle.std.specs.Prelude.{ℕ, Bool, List, [], slice_get}
use Rattle.std.specs.Option.{option_map_or}
use Rattle.pb_handlers.specs.Pending.{marks_after}
use Rattle.pb_handlers.specs.History.{history_of}
use Rattle.pb_host.specs.Host.{HostOf}
use Rattle.pb_state.specs.State.{State}

-- of each handler of the play whether it is pending on the host of this row
abbrev pub noted_on : HostOf → List Bool
noted_on row = marks_after row.tree.handlers (history_of row.tree row.answers)

-- there are none of a number that is no host's
abbrev pub noted_at : State → ℕ → List Bool
noted_at s h = option_map_or noted_on (slice_get s.rows h) []
