-- The events of a run that is given commands. A command is due once so many reports came as it says and all before it in the list were due: it is given there,
-- before any other event, in the list's order. One that is refused changes nothing. The events of the others stand there in the trail, and no command stands elsewhere.
use Rattle.std.specs.Prelude.{◌≡◌, ◌≤◌, ℕ, ◌+◌, nat_le, Bool, true, not, List, [], ◌∷◌, ◌++◌, drop, length, is_none, if◌then◌else◌}
use Rattle.pb_plan.specs.Plan.{PlanOf}
use Rattle.pb_state.specs.declared.event.Event.{Event}
use Rattle.pb_state.specs.State.{State}
use Rattle.pb_state.specs.Machine.{after, first_state}
use Rattle.pb_state.specs.Run.{is_report, is_command, state_from}
use Rattle.pb_engine.specs.Commands.{event_for, fault_of}
use Rattle.pb_engine.specs.EngineOf.{EngineOf}
use Rattle.pb_driver.specs.declared.given.Given.{Given}
use Rattle.pb_driver.specs.declared.given.CommandCursor.{CommandCursor}

-- so many reports came as a command says
abbrev pub is_due : ℕ → Given → Bool
is_due reports given = nat_le given.after reports

-- the commands that are due: those in front of the first that isn't
abbrev pub due : ℕ → List Given → List Given
due reports [] = []
due reports (given ∷ rest) = if is_due reports given then given ∷ due reports rest else []

-- that one, and those behind it
abbrev pub behind_due : ℕ → List Given → List Given
behind_due reports [] = []
behind_due reports (given ∷ rest) = if is_due reports given then behind_due reports rest else given ∷ rest

-- a command is taken where it isn't refused
abbrev pub is_taken : PlanOf → ℕ → State → Given → Bool
is_taken plan pool s given = is_none (fault_of plan pool s given.command)

-- the events of commands that are given one behind the other, from a state on: of each that is taken
abbrev pub accepted : PlanOf → ℕ → State → List Given → List Event
accepted plan pool s [] = []
accepted plan pool s (given ∷ rest) =
    if is_taken plan pool s given then event_for given.command ∷ accepted plan pool (after plan s (event_for given.command)) rest else accepted plan pool s rest

-- how many reports came, with an event
abbrev pub count_report : ℕ → Event → ℕ
count_report reports e = if is_report e then reports + 1 else reports

-- events from a state on, with those of the commands put in: before each event, and at the end, of those that are due there
abbrev pub with_commands : PlanOf → ℕ → State → ℕ → List Given → List Event → List Event
with_commands plan pool s reports commands [] = accepted plan pool s (due reports commands)
with_commands plan pool s reports commands (e ∷ es) =
    accepted plan pool s (due reports commands)
    ++ e ∷ with_commands plan pool (after plan (state_from plan s (accepted plan pool s (due reports commands))) e) (count_report reports e) (behind_due reports commands) es

-- a whole run with its commands: from the first state on, before any report
abbrev pub run_with : PlanOf → ℕ → List Given → List Event → List Event
run_with plan pool commands events = with_commands plan pool (first_state plan plan.forks pool) 0 commands events

-- a trail's events but its commands
abbrev pub own_events : List Event → List Event
own_events [] = []
own_events (e ∷ es) = if is_command e then own_events es else e ∷ own_events es

-- the trail of a whole run: its own events, with the commands that were due
abbrev pub IsObeyed : PlanOf → ℕ → List Given → List Event → Type 0
IsObeyed plan pool commands trail = trail ≡ run_with plan pool commands (own_events trail)

-- the trail of a run that couldn't go on: a front of that
abbrev pub IsObeyedTo : PlanOf → ℕ → List Given → List Event → Type 0
IsObeyedTo plan pool commands trail = (more : List Event) × (run_with plan pool commands (own_events trail) ≡ trail ++ more)

-- an engine has come so far with its commands: whatever its own events are from now on, the run with them is its trail and what the commands that are left give
pub record IsAlong (commands : List Given) (accepted : CommandCursor) (engine : EngineOf) : Type 0 where
  pub along : (es : List Event) → run_with engine.plan engine.pool commands (own_events engine.trail ++ es) ≡ engine.trail ++ with_commands engine.plan engine.pool engine.state accepted.reports (drop accepted.given commands) es
  pub counted : accepted.reports ≤ length engine.trail

-- no command is due
abbrev pub none_due : ℕ → List Given → Bool
none_due reports [] = true
none_due reports (given ∷ rest) = not (is_due reports given)
