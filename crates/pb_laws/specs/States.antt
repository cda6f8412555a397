-- What holds wherever a run has come to: who may go on, what a host's status says, and that there is a way to the end.
use Rattle.std.specs.Prelude.{◌≡◌, ◌<◌, ◌⊎◌, ℕ, true, false, List, Some, None, IfSome, slice_get}
use Rattle.std.specs.List.{list_any}
use Rattle.pb_ids.specs.declared.numbers.HostNo.{HostNo}
use Rattle.pb_ids.specs.declared.numbers.Ticket.{Ticket}
use Rattle.pb_confluence.specs.Fixed.{Fixed, IsFixed}
use Rattle.pb_plan.specs.Plan.{PlanOf}
use Rattle.pb_host.specs.Host.{HostOf, next_place, place_of}
use Rattle.pb_state.specs.declared.event.Event.{Event}
use Rattle.pb_state.specs.declared.event.Event.TheVariants.{Start, Send}
use Rattle.pb_state.specs.Machine.{possible, ready}
use Rattle.pb_state.specs.Over.{IsOver}
use Rattle.pb_state.specs.Run.{legal_from, state_from, IsLegal, state_after, IsEager, IsFinished, is_command}
use Rattle.pb_state.specs.State.{State}
use Rattle.pb_tree.specs.declared.tree.Status.TheVariants as stays
use Rattle.pb_tree.specs.Walk.{reach, status_now, unforced}

-- a host may start a task, or send a job
abbrev pub MayAct : PlanOf → State → HostNo → Type 0
MayAct plan s h = (possible plan s (Start h) ≡ true) ⊎ ((item : ℕ) × (attempt : ℕ) × (ticket : Ticket) × (possible plan s (Send h item attempt ticket) ≡ true))

-- what the status of a host says
pub record IsStatused (row : HostOf) : Type 0 where
  -- in a batch a host is what its answers make it: active, failed, halted, or out of reach
  pub walked : row.in_batch ≡ true → row.status ≡ status_now row.tree row.answers
  -- one that stands at a place is active, unless its play forces handlers and it would be at its end without them
  pub standing : (place : ℕ) → next_place row ≡ Some place → (row.status ≡ stays.Active) ⊎ ((row.tree.force_handlers ≡ true) × (place_of (reach (unforced row.tree) row.answers) ≡ None))

-- a way to the end: it goes by itself, with no command, each report comes where nothing else can, and tells what is fixed for its job
pub record IsWay (plan : PlanOf) (f : Fixed) (s : State) (more : List Event) : Type 0 where
  pub legal : legal_from plan s more ≡ true
  pub eager : IsEager plan s more
  pub own : list_any is_command more ≡ false
  pub fixed : IsFixed plan f s more
  pub finished : IsFinished plan (state_from plan s more)

pub record GoesOn (plan : PlanOf) (s : State) : Type 0 where
  -- the hosts that are ready, of which one is picked, are exactly those that may act
  pub acts : (h : HostNo) → slice_get (ready plan s) h.0 ≡ Some true → MayAct plan s h
  pub seen : (h : HostNo) → MayAct plan s h → slice_get (ready plan s) h.0 ≡ Some true
  pub statuses : (h : ℕ) → IfSome (slice_get s.rows h) IsStatused
  -- no run is stuck: where nothing can happen any more it was stopped or ended early, or no batch is open and none is left
  pub over : 0 < plan.forks → IsFinished plan s → IsOver plan s
  -- and whatever comes of jobs, it can be brought to its end
  pub way : 0 < plan.forks → (f : Fixed) → (more : List Event) × IsWay plan f s more

-- wherever a legal trail leads
abbrev pub RunsGoOn : Type 0
RunsGoOn = (plan : PlanOf) (pool : ℕ) (trail : List Event) → IsLegal plan pool trail → GoesOn plan (state_after plan pool trail)
