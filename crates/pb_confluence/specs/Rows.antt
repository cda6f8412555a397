-- Worked runs: whatever the forks, they end in what their hosts reach together.
use Rattle.std.specs.Prelude.{◌≡◌, ℕ, pos, true, ◌==◌, List, [], ◌∷◌, map, codes, Some, None, refl, if◌then◌else◌}
use Rattle.pb_batches.specs.declared.serial.Entry.TheVariants.{Number}
use Rattle.pb_outcome.specs.declared.outcome.Form.{Form}
use Rattle.pb_outcome.specs.declared.outcome.Form.TheVariants.{Ran, Unreachable as NoAnswer}
use Rattle.pb_places.specs.Place.{PlaceOf}
use Rattle.pb_plan.specs.Plan.{PlanOf, bare_play, bare_tree}
use Rattle.pb_host.specs.declared.host.Counts.{Counts}
use Rattle.pb_host.specs.FactRows.{on_facts}
use Rattle.pb_host.specs.Host.{HostOf, none_counted}
use Rattle.pb_state.specs.declared.event.Event.{Event}
use Rattle.pb_state.specs.declared.event.Event.TheVariants.{Open, Send, Report as Reported, Turn, Close, Forks}
use Rattle.pb_state.specs.Machine.{first_state}
use Rattle.pb_state.specs.BatchRows.{start, send, went, threes, all_three, led_to}
use Rattle.pb_state.specs.BlockRows.{says, runs}
use Rattle.pb_state.specs.Run.{IsLegal}
use Rattle.pb_confluence.specs.Fixed.{Fixed, IsFixed}
use Rattle.pb_confluence.specs.Together.{together}

abbrev pub comes : ℕ → ℕ → Form → Event
comes h ticket outcome = Reported (record { ticket = record { 0 = ticket }; host = record { 0 = h }; item = 0; attempt = 1; outcome = outcome })

abbrev pub counts : List HostOf → List Counts
counts rows = map (λ (row : HostOf). row.counts) rows

-- ---- a command whose failure is fatal for all, and then a task: the first host fails
abbrev pub fails : Fixed
fails asked = if asked.host == 0 then Ran (pos 1) [] [] else Ran (pos 0) [] []

abbrev fatal : ℕ → PlanOf
fatal forks = threes forks (bare_play (codes "all") (bare_tree 0 2 0) (record runs { any_errors_fatal = true } ∷ says ∷ []) all_three ∷ [])

abbrev one_by_one : List Event
one_by_one = Open ∷ start 0 ∷ send 0 0 ∷ comes 0 0 (Ran (pos 1) [] []) ∷ start 1 ∷ send 1 1 ∷ went 1 1 ∷ start 2 ∷ send 2 2 ∷ went 2 2 ∷ Turn ∷ Close ∷ []

abbrev all_at_once : List Event
all_at_once = Open ∷ start 2 ∷ send 2 0 ∷ start 0 ∷ start 1 ∷ send 1 1 ∷ went 1 1 ∷ send 0 2 ∷ comes 0 2 (Ran (pos 1) [] []) ∷ went 2 0 ∷ Turn ∷ Close ∷ []

together_fatal : counts (together (fatal 1) fails) ≡ record none_counted { failed = 1 } ∷ record none_counted { ok = 1; changed = 1 } ∷ record none_counted { ok = 1; changed = 1 } ∷ []
unfolding on_facts
together_fatal = refl

fatal_one : IsLegal (fatal 1) 256 one_by_one × ((led_to (fatal 1) one_by_one).rows ≡ together (fatal 1) fails)
unfolding on_facts
fatal_one = (refl, refl)

fatal_all : IsLegal (fatal 256) 256 all_at_once × ((led_to (fatal 256) all_at_once).rows ≡ together (fatal 1) fails)
unfolding on_facts
fatal_all = (refl, refl)

-- ---- a task that runs once in each batch of two: the first host of the first batch is out of reach, so the second one runs it for all
abbrev out_of_reach : Fixed
out_of_reach asked = if asked.host == 0 then NoAnswer [] else Ran (pos 0) (codes "A") []

abbrev once : PlaceOf
once = record runs { run_once = true; task = record runs.task { register = Some (codes "r") } }

abbrev for_all : PlanOf
for_all = threes 5 (record (bare_play (codes "all") (bare_tree 0 2 0) (once ∷ says ∷ []) all_three) { serial = Number (pos 2) ∷ [] } ∷ [])

abbrev for_all_run : List Event
for_all_run =
    Open ∷ start 0 ∷ send 0 0 ∷ comes 0 0 (NoAnswer []) ∷ Forks 1 ∷ start 1 ∷ send 1 1 ∷ comes 1 1 (Ran (pos 0) (codes "A") []) ∷ Turn ∷ start 1 ∷ Turn ∷ Close
    ∷ Open ∷ start 2 ∷ send 2 2 ∷ comes 2 2 (Ran (pos 0) (codes "A") []) ∷ Turn ∷ start 2 ∷ Turn ∷ Close ∷ []

abbrev for_all_counts : List Counts
for_all_counts = record none_counted { unreachable = 1 } ∷ record none_counted { ok = 2; changed = 1 } ∷ record none_counted { ok = 2; changed = 1 } ∷ []

for_all_ends : IsLegal for_all 256 for_all_run × (counts (led_to for_all for_all_run).rows ≡ for_all_counts) × (counts (together for_all out_of_reach) ≡ for_all_counts)
unfolding on_facts
for_all_ends = (refl, refl, refl)

-- and it is a run under these outcomes
for_all_fixed : IsFixed for_all out_of_reach (first_state for_all 5 256) (Open ∷ start 0 ∷ send 0 0 ∷ comes 0 0 (NoAnswer []) ∷ [])
unfolding on_facts
for_all_fixed = (tt, (tt, (tt, (refl, tt))))

-- ---- a command that may be tried once more: what is fixed for its first attempt is another outcome than for its second
abbrev second_time : Fixed
second_time asked = if asked.attempt == 1 then Ran (pos 1) [] [] else Ran (pos 0) [] []

abbrev tried : PlanOf
tried = threes 5 (bare_play (codes "all") (bare_tree 0 1 0) (record runs { task = record runs.task { retrying = Some (record { until = None; retries = 1; delay = 0 }) } } ∷ []) all_three ∷ [])

abbrev again : ℕ → ℕ → Event
again h ticket = Send (record { 0 = h }) 0 2 (record { 0 = ticket })

abbrev comes_then : ℕ → ℕ → Event
comes_then h ticket = Reported (record { ticket = record { 0 = ticket }; host = record { 0 = h }; item = 0; attempt = 2; outcome = Ran (pos 0) [] [] })

abbrev fails_first : ℕ → ℕ → Event
fails_first h ticket = comes h ticket (Ran (pos 1) [] [])

abbrev tried_run : List Event
tried_run =
    Open ∷ start 0 ∷ send 0 0 ∷ start 1 ∷ fails_first 0 0 ∷ send 1 1 ∷ again 0 2 ∷ fails_first 1 1 ∷ start 2 ∷ comes_then 0 2 ∷ again 1 3 ∷ comes_then 1 3
    ∷ send 2 4 ∷ fails_first 2 4 ∷ again 2 5 ∷ comes_then 2 5 ∷ Turn ∷ Close ∷ []

abbrev tried_counts : List Counts
tried_counts = record none_counted { ok = 1; changed = 1 } ∷ record none_counted { ok = 1; changed = 1 } ∷ record none_counted { ok = 1; changed = 1 } ∷ []

tried_ends : IsLegal tried 256 tried_run × (counts (led_to tried tried_run).rows ≡ tried_counts) × (counts (together tried second_time) ≡ tried_counts)
unfolding on_facts
tried_ends = (refl, refl, refl)

-- and it is a run under these outcomes
tried_fixed : IsFixed tried second_time (first_state tried 5 256) (Open ∷ start 0 ∷ send 0 0 ∷ fails_first 0 0 ∷ again 0 1 ∷ comes_then 0 1 ∷ [])
unfolding on_facts
tried_fixed = (tt, (tt, (tt, (refl, (tt, (refl, tt))))))
