-- Which hosts a run has brought through: all that was to be done on them was done.
use Rattle.std.specs.Prelude.{ℕ, ◌+◌, Bool, ◌&&◌, ◌||◌, not, List, drop, if◌then◌else◌}
use Rattle.std.specs.List.{list_any}
use Rattle.pb_planes.specs.Set.{is_in as is_member}
use Rattle.pb_plan.specs.Plan.{PlayOf, PlanOf}
use Rattle.pb_hosts.specs.Batches.{has_batch_left}
use Rattle.pb_hosts.specs.Hosts.{at_row}
use Rattle.pb_host.specs.Host.{HostOf, is_active}
use Rattle.pb_state.specs.State.{State}

-- the number of the first play that hasn't begun
abbrev pub first_unbegun : State → ℕ
first_unbegun s = if s.is_open || has_batch_left s.sizes_left then s.play + 1 else s.play

-- a host is active, and waits for nothing in the play that goes on
abbrev pub is_done : HostOf → Bool
is_done row = is_active row.status && not row.awaits_batch

-- one of these plays has the host for its own
abbrev pub is_selected : ℕ → List PlayOf → Bool
is_selected host plays = list_any (λ (play : PlayOf). is_member play.hosts host) plays

-- a host got through where it is done, and no play that hasn't begun has it for its own; no number beyond the last host did
abbrev pub got_through : PlanOf → State → ℕ → Bool
got_through plan s host = at_row is_done s.rows host && not (is_selected host (drop (first_unbegun s) plan.plays))
