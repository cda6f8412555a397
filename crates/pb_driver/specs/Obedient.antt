-- What the commands in a run's trail are, in an operator's words: some of those that were given, in their order, and each directly behind a report, behind
-- another command, or at the beginning.
use Rattle.std.specs.Prelude.{◌≡◌, ◌⊎◌, ℕ, Bool, true, not, ◌&&◌, ◌||◌, List, [], ◌∷◌, map, if◌then◌else◌}
use Rattle.pb_plan.specs.Plan.{PlanOf}
use Rattle.pb_state.specs.declared.event.Event.{Event}
use Rattle.pb_state.specs.Run.{is_report, is_command}
use Rattle.pb_engine.specs.Commands.{event_for}
use Rattle.pb_driver.specs.declared.given.Given.{Given}
use Rattle.pb_driver.specs.Commanded.{IsObeyed}

-- the commands among events
abbrev pub commands_in : List Event → List Event
commands_in [] = []
commands_in (e ∷ es) = if is_command e then e ∷ commands_in es else commands_in es

-- the events of commands that are given
abbrev pub events_for : List Given → List Event
events_for commands = map (λ (given : Given). event_for given.command) commands

-- some of a list, in its order
abbrev pub AreSomeOf : List Event → List Event → Type 0
AreSomeOf xs [] = xs ≡ []
AreSomeOf xs (y ∷ ys) = AreSomeOf xs ys ⊎ ((rest : List Event) × (xs ≡ y ∷ rest) × AreSomeOf rest ys)

-- whether each command stands directly behind a report or another command, or first, where it may stand there
abbrev pub stand_behind_reports : (may_stand_first : Bool) → List Event → Bool
stand_behind_reports may [] = true
stand_behind_reports may (e ∷ es) = (may || not (is_command e)) && stand_behind_reports (is_report e || is_command e) es

-- whatever commands a run is given
abbrev pub CommandsStandBehindReports : Type 0
CommandsStandBehindReports =
    (plan : PlanOf) (pool : ℕ) (commands : List Given) (trail : List Event) → IsObeyed plan pool commands trail
    → AreSomeOf (commands_in trail) (events_for commands) × (stand_behind_reports true trail ≡ true)
