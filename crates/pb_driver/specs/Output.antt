-- What a run writes.
use Rattle.std.specs.Prelude.{ℕ, List, [], ◌∷◌, ◌++◌, length}
use Rattle.pb_state.specs.declared.event.Event.{Event}
use Rattle.pb_host.specs.declared.host.Counts.{Counts}
use Rattle.pb_plan.specs.Plan.{PlanOf}
use Rattle.pb_state.specs.State.{State}
use Rattle.pb_state.specs.Machine.{after, first_state}
use Rattle.pb_events.specs.Lines.{lines_of, start_line}
use Rattle.pb_recap.specs.Recap.{recap}
use Rattle.pb_recap.specs.Stats.{stats_line}
use Rattle.pb_recap.specs.Text.{recap_text}

-- the lines of each event, of the state after it
abbrev pub lines_from : PlanOf → State → List Event → List ℕ
lines_from plan s [] = []
lines_from plan s (e ∷ es) = lines_of plan (after plan s e) e ++ lines_from plan (after plan s e) es

-- the statistics and the recap, once the run is at its end
abbrev pub end_lines : PlanOf → List Counts → List ℕ
end_lines plan counts = stats_line plan.inventory.hosts counts ++ recap_text plan.inventory.hosts counts

-- the output of a trail that ends in a finished state
abbrev pub output : PlanOf → ℕ → List Event → List ℕ
output plan pool trail =
    start_line (length plan.plays) ++ lines_from plan (first_state plan plan.forks pool) trail ++ end_lines plan (recap plan pool trail)
