-- What a run writes, line by line: each event has its lines directly behind those of the events before it, no line stands there without its event, and none
-- is missing.
use Rattle.std.specs.Prelude.{◌≡◌, ℕ, ◌+◌, List, [], ◌∷◌, ◌++◌, map, length, take, Option}
use Rattle.pb_plan.specs.Plan.{PlanOf}
use Rattle.pb_state.specs.declared.event.Event.{Event}
use Rattle.pb_state.specs.State.{State}
use Rattle.pb_state.specs.Machine.{after, first_state}
use Rattle.pb_events.specs.Lines.{lines_of, start_line}
use Rattle.pb_events.specs.Whole.{lines_in, AreObjects}
use Rattle.pb_recap.specs.Recap.{recap}
use Rattle.pb_recap.specs.Stats.{stats_line}
use Rattle.pb_recap.specs.Text.{recap_text}
use Rattle.pb_driver.specs.Cut.{all_but_last, IsCut}
use Rattle.pb_driver.specs.Output.{output}
use Rattle.pb_driver.specs.Taken.{with_more}

-- the lines of an event, each with the event's number
abbrev pub numbered : ℕ → List (List ℕ) → List (ℕ × List ℕ)
numbered n lines = map (λ (line : List ℕ). (n, line)) lines

-- the lines of each event of a trail, in order, by the state after it; the first event has the number n
abbrev pub event_lines : PlanOf → State → ℕ → List Event → List (ℕ × List ℕ)
event_lines plan s n [] = []
event_lines plan s n (e ∷ es) = numbered n (lines_in (lines_of plan (after plan s e) e)) ++ event_lines plan (after plan s e) (n + 1) es

-- the lines of a whole trail's events, the first of which has the number 0
abbrev pub lines_along : PlanOf → ℕ → List Event → List (ℕ × List ℕ)
lines_along plan pool trail = event_lines plan (first_state plan plan.forks pool) 0 trail

-- the lines without the numbers of their events
abbrev pub only_lines : List (ℕ × List ℕ) → List (List ℕ)
only_lines numbered_lines = map (λ (t : ℕ × List ℕ). t.1) numbered_lines

-- the lines of a trail's output: the first one, those of the events and no others, the statistics, and the recap
pub record StandBehindEvents (plan : PlanOf) (pool : ℕ) (trail : List Event) : Type 0 where
  pub lines : lines_in (output plan pool trail)
      ≡ start_line (length plan.plays) ∷ only_lines (lines_along plan pool trail)
      ++ stats_line plan.inventory.hosts (recap plan pool trail) ∷ lines_in (recap_text plan.inventory.hosts (recap plan pool trail))
  pub objects : AreObjects (only_lines (lines_along plan pool trail))

-- what is written for certain where a run couldn't go on: the first line, if there was an event, and those of all events but the last
abbrev pub certain_lines : PlanOf → ℕ → List Event → List (List ℕ)
certain_lines plan pool [] = []
certain_lines plan pool (e ∷ es) = start_line (length plan.plays) ∷ only_lines (lines_along plan pool (all_but_last (e ∷ es)))

-- a beginning of the output was written, in which these lines stand, and others behind them or none
pub record StandBehindEventsTo (plan : PlanOf) (pool : ℕ) (trail : List Event) (before after : Option (List ℕ)) : Type 0 where
  pub count : ℕ
  pub written : after ≡ with_more before (take count (output plan pool trail))
  pub others : List (List ℕ)
  pub lines : lines_in (take count (output plan pool trail)) ≡ certain_lines plan pool trail ++ others

-- whatever the events of a trail are
pub record LinesStandBehindEvents : Type 0 where
  pub whole : (plan : PlanOf) (pool : ℕ) (trail : List Event) → StandBehindEvents plan pool trail
  pub cut : (plan : PlanOf) (pool : ℕ) (trail : List Event) (before after : Option (List ℕ)) → IsCut plan pool trail before after → StandBehindEventsTo plan pool trail before after
