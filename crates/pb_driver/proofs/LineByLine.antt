-- The lines of a run's output are those of its events, in order.
use Rattle.std.proofs.Common.{◌≡◌, ℕ, ◌+◌, ◌-◌, ◌≤◌, List, [], ◌∷◌, ◌++◌, length, take, refl, sym, ◌∙◌, ap, subst, arith, append_assoc}
use Rattle.std.specs.Prelude.{zero, suc, Option}
use Rattle.pb_plan.specs.Plan.{PlanOf}
use Rattle.pb_state.specs.declared.event.Event.{Event}
use Rattle.pb_state.specs.State.{State}
use Rattle.pb_state.specs.Machine.{after, first_state}
use Rattle.pb_events.specs.Lines.{lines_of, start_line}
use Rattle.pb_events.specs.Whole.{lines_in, AreObjects, EventsHaveLines}
use Rattle.pb_recap.specs.Recap.{recap}
use Rattle.pb_recap.specs.Stats.{line_data}
use Rattle.pb_recap.specs.Text.{recap_text}
use Rattle.pb_driver.specs.Output.{lines_from, end_lines, output}
use Rattle.pb_driver.specs.Cut.{lines_to, IsCut}
use Rattle.pb_driver.specs.Written.{numbered, event_lines, lines_along, only_lines, StandBehindEvents, StandBehindEventsTo, LinesStandBehindEvents}
use Rattle.pb_driver.proofs.Cutting.{take_behind}

only_both : (a b : List (ℕ × List ℕ)) → only_lines (a ++ b) ≡ only_lines a ++ only_lines b
only_both [] b = refl
only_both (t ∷ a) b = ap (λ rest. t.1 ∷ rest) (only_both a b)

only_numbered : (n : ℕ) (lines : List (List ℕ)) → only_lines (numbered n lines) ≡ lines
only_numbered n [] = refl
only_numbered n (line ∷ lines) = ap (λ rest. line ∷ rest) (only_numbered n lines)

-- the lines of an event, and those of the events behind it
only_more : (n : ℕ) (lines : List (List ℕ)) (more : List (ℕ × List ℕ)) → only_lines (numbered n lines ++ more) ≡ lines ++ only_lines more
only_more n lines more = only_both (numbered n lines) more ∙ ap (λ l. l ++ only_lines more) (only_numbered n lines)

-- whatever is written behind the lines of some events
events_cut : (law : EventsHaveLines) (plan : PlanOf) (s : State) (n : ℕ) (es : List Event) (more : List ℕ)
    → lines_in (lines_from plan s es ++ more) ≡ only_lines (event_lines plan s n es) ++ lines_in more
events_cut law plan s n [] more = refl
events_cut law plan s n (e ∷ es) more =
    let new = after plan s e in
    let its = lines_in (lines_of plan new e) in
    let rest = event_lines plan new (n + 1) es in
    ap lines_in (append_assoc (lines_of plan new e) (lines_from plan new es) more) ∙ law.whole plan new e (lines_from plan new es ++ more)
    ∙ ap (λ l. its ++ l) (events_cut law plan new (n + 1) es more) ∙ sym (append_assoc its (only_lines rest) (lines_in more)) ∙ ap (λ l. l ++ lines_in more) (sym (only_more n its rest))

-- and behind the first line and these
front_cut : (law : EventsHaveLines) (plan : PlanOf) (pool : ℕ) (trail : List Event) (more : List ℕ)
    → lines_in (lines_to plan pool trail ++ more) ≡ start_line (length plan.plays) ∷ only_lines (lines_along plan pool trail) ++ lines_in more
front_cut law plan pool trail more =
    let first = first_state plan plan.forks pool in
    ap lines_in (append_assoc (start_line (length plan.plays)) (lines_from plan first trail) more) ∙ law.start (length plan.plays) (lines_from plan first trail ++ more)
    ∙ ap (λ l. start_line (length plan.plays) ∷ l) (events_cut law plan first 0 trail more)

both_objects : (a b : List (List ℕ)) → AreObjects a → AreObjects b → AreObjects (a ++ b)
both_objects [] b p q = q
both_objects (text ∷ a) b p q = (p.0, both_objects a b p.1 q)

are_objects : (law : EventsHaveLines) (plan : PlanOf) (s : State) (n : ℕ) (es : List Event) → AreObjects (only_lines (event_lines plan s n es))
are_objects law plan s n [] = tt
are_objects law plan s n (e ∷ es) =
    let new = after plan s e in
    let its = lines_in (lines_of plan new e) in
    let rest = event_lines plan new (n + 1) es in
    subst AreObjects (sym (only_more n its rest)) (both_objects its (only_lines rest) (law.objects plan new e) (are_objects law plan new (n + 1) es))

stand_behind : (law : EventsHaveLines) (plan : PlanOf) (pool : ℕ) (trail : List Event) → StandBehindEvents plan pool trail
stand_behind law plan pool trail =
    let counts = recap plan pool trail in
    let in_trail = only_lines (lines_along plan pool trail) in
    record {
      lines =
          front_cut law plan pool trail (end_lines plan counts)
          ∙ ap (λ l. start_line (length plan.plays) ∷ (in_trail ++ l)) (law.json (line_data plan.inventory.hosts counts) (recap_text plan.inventory.hosts counts));
      objects = are_objects law plan (first_state plan plan.forks pool) 0 trail;
    }

-- ---- a run that broke off
-- the lines of the first events are a front of those of all
front_from : (plan : PlanOf) (s : State) (n : ℕ) (es : List Event) → (more : List ℕ) × (lines_from plan s es ≡ lines_from plan s (take n es) ++ more)
front_from plan s zero es = (lines_from plan s es, refl)
front_from plan s (suc n) [] = ([], refl)
front_from plan s (suc n) (e ∷ es) =
    let rest = front_from plan (after plan s e) n es in
    let its = lines_of plan (after plan s e) e in
    (rest.0, ap (λ l. its ++ l) rest.1 ∙ sym (append_assoc its (lines_from plan (after plan s e) (take n es)) rest.0))

front_of_output : (plan : PlanOf) (pool : ℕ) (n : ℕ) (trail : List Event) → (more : List ℕ) × (output plan pool trail ≡ lines_to plan pool (take n trail) ++ more)
front_of_output plan pool n trail =
    let front = front_from plan (first_state plan plan.forks pool) n trail in
    let start = start_line (length plan.plays) in
    let some = lines_from plan (first_state plan plan.forks pool) (take n trail) in
    let last = end_lines plan (recap plan pool trail) in
    (front.0 ++ last, ap (λ l. (start ++ l) ++ last) front.1 ∙ ap (λ l. l ++ last) (sym (append_assoc start some front.0)) ∙ append_assoc (start ++ some) front.0 last)

taken_behind : (count : ℕ) (all front more : List ℕ) → all ≡ front ++ more → length front ≤ count → take count all ≡ front ++ take (count - length front) more
taken_behind count all front more is least =
    let sum : count ≡ length front + (count - length front) = omega (arith, least) in
    ap (λ l. take count l) is ∙ ap (λ k. take k (front ++ more)) sum ∙ take_behind (count - length front) front more

broken : (law : EventsHaveLines) (plan : PlanOf) (pool : ℕ) (trail : List Event) (before after : Option (List ℕ)) → IsCut plan pool trail before after → StandBehindEventsTo plan pool trail before after
broken law plan pool [] before after cut =
    record { count = cut.count; written = cut.written; others = lines_in (take cut.count (output plan pool [])); lines = refl }
broken law plan pool (e ∷ es) before after cut =
    let n = length (e ∷ es) - 1 in
    let front = front_of_output plan pool n (e ∷ es) in
    let some = lines_to plan pool (take n (e ∷ es)) in
    let rest = take (cut.count - length some) front.0 in
    record {
      count = cut.count;
      written = cut.written;
      others = lines_in rest;
      lines = ap lines_in (taken_behind cut.count (output plan pool (e ∷ es)) some front.0 front.1 cut.least) ∙ front_cut law plan pool (take n (e ∷ es)) rest;
    }

pub lines_stand_behind_events : EventsHaveLines → LinesStandBehindEvents
lines_stand_behind_events law = record { whole = stand_behind law; cut = broken law }
