-- What a run has written that couldn't go on.
use Rattle.std.specs.Prelude.{◌≡◌, ◌≤◌, ◌<◌, ◌-◌, ℕ, List, [], ◌∷◌, ◌++◌, length, take, Option}
use Rattle.pb_state.specs.declared.event.Event.{Event}
use Rattle.pb_plan.specs.Plan.{PlanOf}
use Rattle.pb_state.specs.Machine.{first_state}
use Rattle.pb_state.specs.Run.{state_after, IsFinished}
use Rattle.pb_engine.specs.EngineOf.{EngineOf}
use Rattle.pb_events.specs.Lines.{start_line}
use Rattle.pb_driver.specs.Taken.{with_more}
use Rattle.pb_driver.specs.Output.{lines_from, output}
use Rattle.pb_driver.specs.Driven.{lines_of_trail}

-- the events in front of the last; none where there is none
abbrev pub all_but_last : List Event → List Event
all_but_last es = take (length es - 1) es

-- a front of the bytes was written
abbrev pub IsPart : Option (List ℕ) → Option (List ℕ) → List ℕ → Type 0
IsPart before after bytes = (n : ℕ) × (after ≡ with_more before (take n bytes))

-- the first line, and the lines of each event
abbrev pub lines_to : PlanOf → ℕ → List Event → List ℕ
lines_to plan pool trail = start_line (length plan.plays) ++ lines_from plan (first_state plan plan.forks pool) trail

-- what was written whole at the least: the lines of all events but the last, and nothing before the first event
abbrev pub least_written : PlanOf → ℕ → List Event → List ℕ
least_written plan pool [] = []
least_written plan pool (e ∷ es) = lines_to plan pool (all_but_last (e ∷ es))

-- what was written is a beginning of the trail's output, with the lines of all events but the last whole, and something of the statistics and the recap only
-- where the run was finished
pub record IsCut (plan : PlanOf) (pool : ℕ) (trail : List Event) (before after : Option (List ℕ)) : Type 0 where
  pub count : ℕ
  pub written : after ≡ with_more before (take count (output plan pool trail))
  pub least : length (least_written plan pool trail) ≤ count
  pub most : length (lines_to plan pool trail) < count → IsFinished plan (state_after plan pool trail)

-- a front of the lines of an engine's trail was written, with those of all events but the last whole
pub record IsShort (engine : EngineOf) (before after : Option (List ℕ)) : Type 0 where
  pub count : ℕ
  pub written : after ≡ with_more before (take count (lines_of_trail engine))
  pub least : length (lines_from engine.plan (first_state engine.plan engine.plan.forks engine.pool) (all_but_last engine.trail)) ≤ count
  pub most : count ≤ length (lines_of_trail engine)

-- where the lines of the engine's trail were written, a front of those of its new trail is written, whatever was written before
abbrev pub Breaks : EngineOf → EngineOf → Option (List ℕ) → Option (List ℕ) → Type 0
Breaks old new taken_old taken_new = (base : Option (List ℕ)) → taken_old ≡ with_more base (lines_of_trail old) → IsShort new base taken_new
