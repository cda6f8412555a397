-- Worked runs: plays in several batches, throttles, and strategies beside the linear one.
use Rattle.std.specs.Prelude.{◌≡◌, ℕ, pos, Bool, true, false, List, [], ◌∷◌, ◌++◌, map, codes, Some, None, refl}
use Rattle.pb_batches.specs.declared.serial.Entry.TheVariants.{Number}
use Rattle.pb_strategies.specs.declared.strategy.Strategy.{Strategy}
use Rattle.pb_strategies.specs.declared.strategy.Strategy.TheVariants.{Linear, Free, HostPinned}
use Rattle.pb_expr_syntax.specs.Tree as tree
use Rattle.pb_expr_syntax.specs.declared.tree.Op.TheVariants.{Equal}
use Rattle.pb_outcome.specs.declared.outcome.Form.TheVariants.{Ran}
use Rattle.pb_places.specs.Place.{PlaceOf}
use Rattle.pb_plan.specs.Plan.{PlayOf, PlanOf, bare_play, bare_plan, bare_tree}
use Rattle.pb_tree.specs.declared.tree.Status.TheVariants as stays
use Rattle.pb_state.specs.declared.event.Event.{Event}
use Rattle.pb_state.specs.declared.event.Event.TheVariants.{Open, Start, Send, Report as Reported, Turn, Close, Stop, Forks}
use Rattle.pb_state.specs.BlockRows.{says, runs, refuses, statuses}
use Rattle.pb_host.specs.FactRows.{on_facts}
use Rattle.pb_state.specs.Machine.{first_state, possible, ready}
use Rattle.pb_state.specs.Once.{StartOf, starts_from}
use Rattle.pb_host.specs.Host.{HostOf}
use Rattle.pb_state.specs.Run.{IsLegal, state_after}
use Rattle.pb_state.specs.State.{State}

abbrev pub start : ℕ → Event
start h = Start (record { 0 = h })

abbrev pub send : ℕ → ℕ → Event
send h ticket = Send (record { 0 = h }) 0 1 (record { 0 = ticket })

-- a command's program ended with status 0
abbrev pub went : ℕ → ℕ → Event
went h ticket = Reported (record { ticket = record { 0 = ticket }; host = record { 0 = h }; item = 0; attempt = 1; outcome = Ran (pos 0) [] [] })

-- plays of three hosts, of which so many may run at once
abbrev pub threes : ℕ → List PlayOf → PlanOf
threes forks plays = record (bare_plan (codes "a" ∷ codes "b" ∷ codes "c" ∷ []) plays) { forks = forks }

abbrev pub all_three : List Bool
all_three = true ∷ true ∷ true ∷ []

abbrev pub led_to : PlanOf → List Event → State
led_to plan events = state_after plan 256 events

abbrev batch_of : PlanOf → List Event → List Bool
batch_of plan events = map (λ (row : HostOf). row.in_batch) (led_to plan events).rows

abbrev pub may : PlanOf → List Event → Event → Bool
may plan events e = possible plan (led_to plan events) e

-- ---- batches
-- a play of one task, in batches of two
abbrev by_two : PlaceOf → PlayOf
by_two place = record (bare_play (codes "all") (bare_tree 0 1 0) (place ∷ []) all_three) { serial = Number (pos 2) ∷ [] }

abbrev said : PlanOf
said = threes 5 (by_two says ∷ [])

abbrev first_two : List Event
first_two = Open ∷ start 0 ∷ start 1 ∷ Turn ∷ Close ∷ []

two_batches : IsLegal said 256 (first_two ++ Open ∷ start 2 ∷ Turn ∷ Close ∷ [])
unfolding on_facts
two_batches = refl

in_first : batch_of said (Open ∷ []) ≡ true ∷ true ∷ false ∷ []
unfolding on_facts
in_first = refl

in_second : batch_of said (first_two ++ Open ∷ []) ≡ false ∷ false ∷ true ∷ []
unfolding on_facts
in_second = refl

second_number : (led_to said (first_two ++ Open ∷ [])).batch ≡ 1
unfolding on_facts
second_number = refl

-- a host waits for its own batch
waits_for_its_own : may said (Open ∷ []) (start 2) ≡ false
unfolding on_facts
waits_for_its_own = refl

none_behind : may said (first_two ++ Open ∷ start 2 ∷ Turn ∷ Close ∷ []) Open ≡ false
unfolding on_facts
none_behind = refl

-- a batch in which no host is active any more ends the run
abbrev refused : PlanOf
refused = threes 5 (by_two refuses ∷ by_two says ∷ [])

first_batch_fails : IsLegal refused 256 first_two
unfolding on_facts
first_batch_fails = refl

nothing_follows : may refused first_two Open ≡ false
unfolding on_facts
nothing_follows = refl

is_ended : (led_to refused first_two).ended ≡ true
unfolding on_facts
is_ended = refl

-- the second host fails in the first play, beside one that doesn't: the batches of the next play are of the hosts that are left
abbrev pub is_second : tree.Tree
is_second = tree.Binary Equal (tree.Name (codes "inventory_hostname")) (tree.Text (codes "b"))

abbrev out_already : PlanOf
out_already = threes 5 (bare_play (codes "p") (bare_tree 0 1 0) (record refuses { conditions = is_second ∷ [] } ∷ []) (true ∷ true ∷ false ∷ []) ∷ by_two says ∷ [])

b_is_out : statuses out_already first_two ≡ stays.Active ∷ stays.Failed ∷ stays.Active ∷ []
unfolding on_facts
b_is_out = refl

without_b : batch_of out_already (first_two ++ Open ∷ []) ≡ true ∷ false ∷ true ∷ []
unfolding on_facts
without_b = refl

is_last_batch : (led_to out_already (first_two ++ Open ∷ [])).sizes_left ≡ []
unfolding on_facts
is_last_batch = refl

-- ---- throttles
-- a throttle of one: a host may start only once the one before has finished
abbrev throttled : Strategy → PlanOf
throttled strategy = threes 5 (record (bare_play (codes "all") (bare_tree 0 1 0) (record runs { throttle = 1 } ∷ []) all_three) { strategy = strategy } ∷ [])

one_runs_it : may (throttled Linear) (Open ∷ start 0 ∷ send 0 0 ∷ []) (start 1) ≡ false
unfolding on_facts
one_runs_it = refl

then_the_next : may (throttled Linear) (Open ∷ start 0 ∷ send 0 0 ∷ went 0 0 ∷ []) (start 1) ≡ true
unfolding on_facts
then_the_next = refl

one_runs_it_freely : ready (throttled Free) (led_to (throttled Free) (Open ∷ start 0 ∷ send 0 0 ∷ [])) ≡ false ∷ false ∷ false ∷ []
unfolding on_facts
one_runs_it_freely = refl

-- ---- free
-- each host goes on by itself, and there is no current place: a place is new to the batch once
abbrev freely : PlanOf
freely = threes 5 (record (bare_play (codes "all") (bare_tree 0 2 0) (says ∷ says ∷ []) (true ∷ true ∷ [])) { strategy = Free } ∷ [])

far_ahead : IsLegal freely 256 (Open ∷ start 0 ∷ start 0 ∷ start 1 ∷ start 1 ∷ Close ∷ [])
unfolding on_facts
far_ahead = refl

no_place : (led_to freely (Open ∷ start 0 ∷ [])).place ≡ None
unfolding on_facts
no_place = refl

no_turn : may freely (Open ∷ start 0 ∷ start 0 ∷ []) Turn ≡ false
unfolding on_facts
no_turn = refl

starts_where_each_stands : map (λ (x : StartOf). x.place) (starts_from freely (first_state freely 5 256) (Open ∷ start 0 ∷ start 0 ∷ start 1 ∷ [])) ≡ Some 0 ∷ Some 1 ∷ Some 0 ∷ []
unfolding on_facts
starts_where_each_stands = refl

-- ---- host_pinned
-- two hosts at most are under way: the third begins once one of them is at its end
abbrev pinned : PlanOf
pinned = threes 2 (record (bare_play (codes "all") (bare_tree 0 2 0) (runs ∷ runs ∷ []) all_three) { strategy = HostPinned } ∷ [])

abbrev two_began : List Event
two_began = Open ∷ start 0 ∷ send 0 0 ∷ start 1 ∷ send 1 1 ∷ went 0 0 ∷ []

third_waits : may pinned two_began (start 2) ≡ false
unfolding on_facts
third_waits = refl

first_goes_on : may pinned two_began (start 0) ≡ true
unfolding on_facts
first_goes_on = refl

third_begins : may pinned (two_began ++ start 0 ∷ send 0 2 ∷ went 0 2 ∷ []) (start 2) ≡ true
unfolding on_facts
third_begins = refl

-- ---- commands
-- commanded to stop: nothing starts, and a report of a job that is out still comes
abbrev one_fork : PlanOf
one_fork = threes 1 (bare_play (codes "all") (bare_tree 0 1 0) (runs ∷ []) all_three ∷ [])

comes_late : IsLegal one_fork 256 (Open ∷ start 0 ∷ send 0 0 ∷ Stop ∷ went 0 0 ∷ [])
unfolding on_facts
comes_late = refl

nothing_starts : ready one_fork (led_to one_fork (Open ∷ start 0 ∷ send 0 0 ∷ went 0 0 ∷ Stop ∷ [])) ≡ false ∷ false ∷ false ∷ []
unfolding on_facts
nothing_starts = refl

-- with more forks another host starts
more_forks : ready one_fork (led_to one_fork (Open ∷ start 0 ∷ send 0 0 ∷ Forks 2 ∷ [])) ≡ false ∷ true ∷ true ∷ []
unfolding on_facts
more_forks = refl

-- a play without tasks closes without a turn
closes_at_once : IsLegal (threes 5 (bare_play (codes "all") (bare_tree 0 0 0) [] all_three ∷ [])) 256 (Open ∷ Close ∷ [])
closes_at_once = refl
