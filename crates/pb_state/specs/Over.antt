-- A run is never stuck: where nothing is possible, it was stopped or ended early, or no batch is open and none is left.
use Rattle.std.specs.Prelude.{◌≡◌, ◌⊎◌, Bool, true, false, List, [], ◌∷◌, drop, Option, Some, None, is_some, slice_get, if◌then◌else◌}
use Rattle.std.specs.List.{list_any}
use Rattle.pb_outcome.specs.Items.{is_over}
use Rattle.pb_plan.specs.Plan.{PlayOf, PlanOf}
use Rattle.pb_strategies.specs.MayStart.{is_linear}
use Rattle.pb_host.specs.declared.host.Running.{Running}
use Rattle.pb_hosts.specs.Batches.{has_batch_left}
use Rattle.pb_host.specs.Host.{HostOf}
use Rattle.pb_state.specs.State.{State}
use Rattle.pb_host.specs.Runs.{is_running}
use Rattle.pb_hosts.specs.Hosts.{has_hosts, least_place}
use Rattle.pb_state.specs.Machine.{open_play}

-- a batch is left: of the play that goes on, or of the plays that are left one has an active host of its own
abbrev pub has_more : PlanOf → State → Bool
has_more plan s = if has_batch_left s.sizes_left then is_some (slice_get plan.plays s.play) else list_any (has_hosts s.rows) (drop s.play plan.plays)

-- a run is over: it was stopped or ended early, or no batch is open and none is left
abbrev pub IsOver : PlanOf → State → Type 0
IsOver plan s = (s.stopped ≡ true) ⊎ (s.ended ≡ true) ⊎ ((s.is_open ≡ false) × (has_more plan s ≡ false))

-- an open batch has its play; in a linear batch without a place no host runs or is at one, and no other batch has a place
abbrev pub IsPlacedBy : (linear : Bool) → State → Type 0
IsPlacedBy true s = s.place ≡ None → (least_place s.rows ≡ None) × (list_any is_running s.rows ≡ false)
IsPlacedBy false s = s.place ≡ None

abbrev pub IsPlacedIn : State → Option PlayOf → Type 0
IsPlacedIn s None = s.is_open ≡ false
IsPlacedIn s (Some play) = IsPlacedBy (is_linear play.strategy) s

abbrev pub IsPlaced : PlanOf → State → Type 0
IsPlaced plan s = IsPlacedIn s (open_play plan s)

-- a task that a host runs isn't over: its next item is to be sent, or to come back
abbrev pub IsUnfinished : Option Running → Type 0
IsUnfinished None = Unit {0}
IsUnfinished (Some r) = is_over r.items ≡ false

-- the same of the tasks of all these hosts
abbrev pub AreUnfinished : List HostOf → Type 0
AreUnfinished [] = Unit {0}
AreUnfinished (row ∷ rows) = IsUnfinished row.running × AreUnfinished rows

-- no host of the state runs a task that is over
pub record IsGoing (s : State) : Type 0 where
  pub tasks : AreUnfinished s.rows
