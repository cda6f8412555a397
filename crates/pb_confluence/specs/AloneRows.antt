-- Worked runs of hosts that have no effect on each other: under other strategies, and in batches of other sizes, each comes to what it reaches alone.
use Rattle.std.specs.Prelude.{◌≡◌, ℕ, pos, true, false, List, [], ◌∷◌, map, codes, refl}
use Rattle.pb_batches.specs.declared.serial.Entry.{Entry}
use Rattle.pb_batches.specs.declared.serial.Entry.TheVariants.{Number}
use Rattle.pb_outcome.specs.declared.outcome.Form.TheVariants.{Ran}
use Rattle.pb_places.specs.Place.{PlaceOf}
use Rattle.pb_plan.specs.Plan.{PlayOf, PlanOf, bare_play, bare_tree}
use Rattle.pb_strategies.specs.declared.strategy.Strategy.{Strategy}
use Rattle.pb_strategies.specs.declared.strategy.Strategy.TheVariants.{Linear, Free}
use Rattle.pb_host.specs.declared.host.Counts.{Counts}
use Rattle.pb_host.specs.FactRows.{on_facts}
use Rattle.pb_host.specs.Host.{none_counted}
use Rattle.pb_state.specs.declared.event.Event.{Event}
use Rattle.pb_state.specs.declared.event.Event.TheVariants.{Open, Turn, Close}
use Rattle.pb_state.specs.BatchRows.{start, send, went, threes, all_three, led_to}
use Rattle.pb_state.specs.BlockRows.{says, runs}
use Rattle.pb_state.specs.Machine.{is_left}
use Rattle.pb_state.specs.Run.{IsLegal}
use Rattle.pb_confluence.specs.Alone.{alone, are_uncoupled, without_orders}
use Rattle.pb_confluence.specs.Rows.{comes, counts, fails}

-- a command and then a task, for three hosts of which two may run at once; the command fails on the first host
abbrev two_tasks : Strategy → List Entry → PlayOf
two_tasks strategy serial = record (bare_play (codes "all") (bare_tree 0 2 0) (runs ∷ says ∷ []) all_three) { strategy = strategy; serial = serial }

abbrev by : Strategy → List Entry → PlanOf
by strategy serial = threes 2 (two_tasks strategy serial ∷ [])

abbrev reached : List Counts
reached = record none_counted { failed = 1 } ∷ record none_counted { ok = 2; changed = 1 } ∷ record none_counted { ok = 2; changed = 1 } ∷ []

each_alone : map (λ (host : ℕ). (alone (by Free []) fails host).counts) (0 ∷ 1 ∷ 2 ∷ []) ≡ reached
unfolding on_facts
each_alone = refl

-- under the free strategy the second host is through before the first one begins
abbrev freely : List Event
freely =
    Open ∷ start 1 ∷ send 1 0 ∷ went 1 0 ∷ start 1 ∷ start 0 ∷ send 0 1 ∷ comes 0 1 (Ran (pos 1) [] []) ∷ start 2 ∷ send 2 2 ∷ went 2 2 ∷ start 2 ∷ Close ∷ []

free_run : IsLegal (by Free []) 256 freely × (counts (led_to (by Free []) freely).rows ≡ reached)
unfolding on_facts
free_run = (refl, refl)

-- under the linear one in batches of two
abbrev in_batches : List Event
in_batches =
    Open ∷ start 0 ∷ send 0 0 ∷ comes 0 0 (Ran (pos 1) [] []) ∷ start 1 ∷ send 1 1 ∷ went 1 1 ∷ Turn ∷ start 1 ∷ Turn ∷ Close
    ∷ Open ∷ start 2 ∷ send 2 2 ∷ went 2 2 ∷ Turn ∷ start 2 ∷ Turn ∷ Close ∷ []

linear_run : IsLegal (by Linear (Number (pos 2) ∷ [])) 256 in_batches × (counts (led_to (by Linear (Number (pos 2) ∷ [])) in_batches).rows ≡ reached)
unfolding on_facts
linear_run = (refl, refl)

-- the two plans differ in how they are run, and in nothing else
differ_in_order : without_orders (by Free []) ≡ without_orders (by Linear (Number (pos 2) ∷ []))
differ_in_order = refl

-- in batches of one the first host's failure ends the run while batches are left, and the other hosts run nothing of what they would reach alone
abbrev one_by_one : List Event
one_by_one = Open ∷ start 0 ∷ send 0 0 ∷ comes 0 0 (Ran (pos 1) [] []) ∷ Turn ∷ Close ∷ []

abbrev by_one : PlanOf
by_one = by Linear (Number (pos 1) ∷ [])

ends_early : IsLegal by_one 256 one_by_one × ((led_to by_one one_by_one).ended ≡ true) × (is_left by_one (led_to by_one one_by_one) ≡ true)
    × (counts (led_to by_one one_by_one).rows ≡ record none_counted { failed = 1 } ∷ none_counted ∷ none_counted ∷ [])
unfolding on_facts
ends_early = (refl, refl, refl, refl)

-- ---- in which plans hosts have no effect on each other
abbrev one_task : PlaceOf → PlanOf
one_task place = threes 5 (bare_play (codes "all") (bare_tree 0 1 0) (place ∷ []) all_three ∷ [])

abbrev few_may_fail : PlanOf
few_may_fail = threes 5 (record (two_tasks Linear []) { max_fail_percentage = 50 } ∷ [])

uncoupled : (are_uncoupled (by Free []) ≡ true) × (are_uncoupled (one_task (record says { run_once = true })) ≡ false)
    × (are_uncoupled (one_task (record says { any_errors_fatal = true })) ≡ false) × (are_uncoupled few_may_fail ≡ false)
uncoupled = (refl, refl, refl, refl)
