-- Whole runs.
use Rattle.std.specs.Prelude.{◌≡◌, ℕ, Bool, true, false, ◌&&◌, List, [], ◌∷◌}
use Rattle.std.specs.List.{list_any}
use Rattle.pb_state.specs.declared.event.Event.{Event}
use Rattle.pb_state.specs.declared.event.Event.TheVariants.{Open, Start, Send, Report as Reported, Turn, Close, Stop, Forks}
use Rattle.pb_plan.specs.Plan.{PlanOf}
use Rattle.pb_state.specs.State.{State}
use Rattle.pb_host.specs.Runs.{is_out}
use Rattle.pb_state.specs.Machine.{possible, after, first_state}

-- one step of the machine
abbrev pub IsStep : PlanOf → State → Event → State → Type 0
IsStep plan old e new = (possible plan old e ≡ true) × (new ≡ after plan old e)

-- each event is possible where it stands
abbrev pub legal_from : PlanOf → State → List Event → Bool
legal_from plan s [] = true
legal_from plan s (e ∷ es) = possible plan s e && legal_from plan (after plan s e) es

-- where the events lead
abbrev pub state_from : PlanOf → State → List Event → State
state_from plan s [] = s
state_from plan s (e ∷ es) = state_from plan (after plan s e) es

-- a trail is legal: from the plan's first state on, with this many forks and workers, each of its events is possible where it stands
abbrev pub IsLegalUnder : PlanOf → (forks pool : ℕ) → List Event → Type 0
IsLegalUnder plan forks pool trail = legal_from plan (first_state plan forks pool) trail ≡ true

-- the state in which it ends
abbrev pub state_after_under : PlanOf → (forks pool : ℕ) → List Event → State
state_after_under plan forks pool trail = state_from plan (first_state plan forks pool) trail

-- with the plan's own forks
abbrev pub IsLegal : PlanOf → (pool : ℕ) → List Event → Type 0
IsLegal plan pool trail = IsLegalUnder plan plan.forks pool trail

-- and the state in which it ends then
abbrev pub state_after : PlanOf → (pool : ℕ) → List Event → State
state_after plan pool trail = state_after_under plan plan.forks pool trail

-- the events that the machine takes by itself
abbrev pub is_move : Event → Bool
is_move Open = true
is_move (Start h) = true
is_move (Send h item attempt ticket) = true
is_move (Reported r) = false
is_move Turn = true
is_move Close = true
is_move Stop = false
is_move (Forks n) = false

-- the commands of whoever runs the machine
abbrev pub is_command : Event → Bool
is_command Open = false
is_command (Start h) = false
is_command (Send h item attempt ticket) = false
is_command (Reported r) = false
is_command Turn = false
is_command Close = false
is_command Stop = true
is_command (Forks n) = true

-- the reports of workers
abbrev pub is_report : Event → Bool
is_report Open = false
is_report (Start h) = false
is_report (Send h item attempt ticket) = false
is_report (Reported r) = true
is_report Turn = false
is_report Close = false
is_report Stop = false
is_report (Forks n) = false

-- nothing that the machine takes by itself is possible
abbrev pub IsQuiet : PlanOf → State → Type 0
IsQuiet plan s = (e : Event) → is_move e ≡ true → possible plan s e ≡ false

-- nothing but commands is possible, and no job is out
pub record IsFinished (plan : PlanOf) (s : State) : Type 0 where
  pub over : (e : Event) → is_command e ≡ false → possible plan s e ≡ false
  pub none_out : list_any is_out s.rows ≡ false

-- a list of events is a run of the plan, with the plan's forks, that ends in this state
pub record IsRun (plan : PlanOf) (pool : ℕ) (trail : List Event) (s : State) : Type 0 where
  pub legal : IsLegal plan pool trail
  pub ends : state_after plan pool trail ≡ s

-- where a report stands, nothing that the machine takes by itself was possible
abbrev pub IsEager : PlanOf → State → List Event → Type 0
IsEager plan s [] = Unit {0}
IsEager plan s (e ∷ es) = (is_report e ≡ true → IsQuiet plan s) × IsEager plan (after plan s e) es
