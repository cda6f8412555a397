-- What the machine does next by itself.
use Rattle.std.specs.Prelude.{◌≡◌, ℕ, Bool, true, false, List, Option, Some, None, option_map, slice_get}
use Rattle.std.specs.List.{list_any}
use Rattle.pb_ids.specs.declared.numbers.HostNo.{HostNo}
use Rattle.pb_planes.specs.Set.{has_some}
use Rattle.pb_state.specs.declared.event.Event.{Event}
use Rattle.pb_state.specs.declared.event.Event.TheVariants.{Open, Start, Send, Report as Reported, Turn, Close, Stop, Forks}
use Rattle.pb_plan.specs.Plan.{PlanOf}
use Rattle.pb_state.specs.State.{State}
use Rattle.pb_host.specs.Runs.{is_out}
use Rattle.pb_state.specs.Machine.{possible, ready}
use Rattle.pb_state.specs.Jobs.{job_of}
use Rattle.pb_state.specs.Run.{is_move, IsQuiet, IsFinished}
use Rattle.pb_engine.specs.declared.choice.Choice.{Choice}
use Rattle.pb_engine.specs.declared.choice.Choice.TheVariants.{Take, Waiting as Waits, Finished as Nothing}
use Rattle.pb_engine.specs.declared.engine.Next.{Next}
use Rattle.pb_engine.specs.declared.engine.Next.TheVariants.{Sent, Moved, Waiting, Finished}
use Rattle.pb_engine.specs.EngineOf.{EngineOf, Takes, LessWork}
use Rattle.pb_state.specs.Over.{IsOver}

-- a host that sends or starts is one of those that are ready, as the picker chose; for every other event no host is ready, and the picker isn't asked
abbrev pub IsPicked : {P : Type 0} → (P → List Bool → ℕ → P → Type 0) → P → P → List Bool → Event → Type 0
IsPicked picks old new set Open = (has_some set ≡ false) × (new ≡ old)
IsPicked picks old new set (Start h) = (slice_get set h.0 ≡ Some true) × picks old set h.0 new
IsPicked picks old new set (Send h item attempt ticket) = (slice_get set h.0 ≡ Some true) × picks old set h.0 new
IsPicked picks old new set (Reported r) = (has_some set ≡ false) × (new ≡ old)
IsPicked picks old new set Turn = (has_some set ≡ false) × (new ≡ old)
IsPicked picks old new set Close = (has_some set ≡ false) × (new ≡ old)
IsPicked picks old new set Stop = (has_some set ≡ false) × (new ≡ old)
IsPicked picks old new set (Forks n) = (has_some set ≡ false) × (new ≡ old)

-- the host that an event is about, if it sends or starts
abbrev pub host_of : Event → Option HostNo
host_of Open = None
host_of (Start h) = Some h
host_of (Send h item attempt ticket) = Some h
host_of (Reported r) = None
host_of Turn = None
host_of Close = None
host_of Stop = None
host_of (Forks n) = None

-- what the machine does next: an event that it takes by itself, a wait where a job is out, or nothing where the run is finished
abbrev pub IsChoice : {P : Type 0} → PlanOf → State → (P → List Bool → ℕ → P → Type 0) → P → P → Choice → Type 0
IsChoice plan s picks old new (Take e) = (possible plan s e ≡ true) × (is_move e ≡ true) × IsPicked picks old new (ready plan s) e
IsChoice plan s picks old new Waits = IsQuiet plan s × (list_any is_out s.rows ≡ true) × (new ≡ old)
IsChoice plan s picks old new Nothing = IsFinished plan s × IsOver plan s × (new ≡ old)

-- what is answered for an event that the machine takes by itself: for a send its job
abbrev pub answer_of : PlanOf → State → Event → Option Next
answer_of plan s Open = Some Moved
answer_of plan s (Start h) = Some Moved
answer_of plan s (Send h item attempt ticket) = option_map Sent (job_of plan s h ticket)
answer_of plan s (Reported r) = None
answer_of plan s Turn = Some Moved
answer_of plan s Close = Some Moved
answer_of plan s Stop = None
answer_of plan s (Forks n) = None

-- this event was taken and answered so, after which less is left to do
pub record IsGone (old new : EngineOf) (e : Event) (next : Next) : Type 0 where
  pub takes : Takes old new e
  pub answer : answer_of old.plan old.state e ≡ Some next
  pub work : LessWork old new

-- one event that the machine takes by itself, of a host that the picker chose where one is ready
abbrev pub MovesBy : {P : Type 0} → (P → List Bool → ℕ → P → Type 0) → P → P → EngineOf → EngineOf → Next → Type 0
MovesBy picks old_picker new_picker old new next =
    (e : Event) × IsGone old new e next × IsPicked picks old_picker new_picker (ready old.plan old.state) e

-- what a call of `next` answers: a wait only where a job is out and nothing but its report and commands are possible
abbrev pub NextIs : {P : Type 0} → (P → List Bool → ℕ → P → Type 0) → P → P → EngineOf → EngineOf → Next → Type 0
NextIs picks old_picker new_picker old new (Sent job) = MovesBy picks old_picker new_picker old new (Sent job)
NextIs picks old_picker new_picker old new Moved = MovesBy picks old_picker new_picker old new Moved
NextIs picks old_picker new_picker old new Waiting = (new ≡ old) × IsQuiet old.plan old.state × (list_any is_out old.state.rows ≡ true) × (new_picker ≡ old_picker)
NextIs picks old_picker new_picker old new Finished = (new ≡ old) × IsFinished old.plan old.state × IsOver old.plan old.state × (new_picker ≡ old_picker)
