-- Worked audits: the trail of one task on two hosts, with one event left out or doubled; and that of a throttle of one.
use Rattle.std.specs.Prelude.{◌≡◌, ℕ, pos, [], ◌∷◌, true, codes, refl}
use Rattle.pb_plan.specs.Plan.{PlanOf, bare_play, bare_plan, bare_tree}
use Rattle.pb_state.specs.BatchRows.{start, send, went}
use Rattle.pb_state.specs.BlockRows.{says, runs}
use Rattle.pb_state.specs.FromHost.{on_facts}
use Rattle.pb_state.specs.declared.event.Event.{Event}
use Rattle.pb_outcome.specs.declared.outcome.Form.TheVariants.{Ran}
use Rattle.pb_state.specs.declared.event.Event.TheVariants.{Open, Send, Report as Reported, Turn, Close, Stop, Forks}
use Rattle.pb_audit.specs.Audit.{is_legal, IsFirstIllegal}
use Rattle.pb_audit.specs.declared.name.EventName.TheVariants as name

-- one play with one task, for two hosts
abbrev hello : PlanOf
hello = bare_plan (codes "a" ∷ codes "b" ∷ []) (bare_play (codes "all") (bare_tree 0 1 0) (says ∷ []) (true ∷ true ∷ []) ∷ [])

abbrev a : Event
a = start 0

abbrev b : Event
b = start 1

whole : is_legal hello (Open ∷ a ∷ b ∷ Turn ∷ Close ∷ []) ≡ true
unfolding on_facts
whole = refl

-- a trail needn't go on to the end of the run
no_events : is_legal hello [] ≡ true
no_events = refl

without_close : is_legal hello (Open ∷ a ∷ b ∷ Turn ∷ []) ≡ true
unfolding on_facts
without_close = refl

without_open : IsFirstIllegal hello (a ∷ b ∷ Turn ∷ Close ∷ []) 0 name.Start
without_open = record { event = a; there = refl; before = refl; illegal = refl; called = refl }

without_the_first_start : IsFirstIllegal hello (Open ∷ b ∷ Turn ∷ Close ∷ []) 2 name.Turn
unfolding on_facts
without_the_first_start = record { event = Turn; there = refl; before = refl; illegal = refl; called = refl }

without_the_second_start : IsFirstIllegal hello (Open ∷ a ∷ Turn ∷ Close ∷ []) 2 name.Turn
unfolding on_facts
without_the_second_start = record { event = Turn; there = refl; before = refl; illegal = refl; called = refl }

without_turn : IsFirstIllegal hello (Open ∷ a ∷ b ∷ Close ∷ []) 3 name.Close
unfolding on_facts
without_turn = record { event = Close; there = refl; before = refl; illegal = refl; called = refl }

open_twice : IsFirstIllegal hello (Open ∷ Open ∷ a ∷ b ∷ Turn ∷ Close ∷ []) 1 name.Open
unfolding on_facts
open_twice = record { event = Open; there = refl; before = refl; illegal = refl; called = refl }

first_start_twice : IsFirstIllegal hello (Open ∷ a ∷ a ∷ b ∷ Turn ∷ Close ∷ []) 2 name.Start
unfolding on_facts
first_start_twice = record { event = a; there = refl; before = refl; illegal = refl; called = refl }

second_start_twice : IsFirstIllegal hello (Open ∷ a ∷ b ∷ b ∷ Turn ∷ Close ∷ []) 3 name.Start
unfolding on_facts
second_start_twice = record { event = b; there = refl; before = refl; illegal = refl; called = refl }

turn_twice : IsFirstIllegal hello (Open ∷ a ∷ b ∷ Turn ∷ Turn ∷ Close ∷ []) 4 name.Turn
unfolding on_facts
turn_twice = record { event = Turn; there = refl; before = refl; illegal = refl; called = refl }

close_twice : IsFirstIllegal hello (Open ∷ a ∷ b ∷ Turn ∷ Close ∷ Close ∷ []) 5 name.Close
unfolding on_facts
close_twice = record { event = Close; there = refl; before = refl; illegal = refl; called = refl }

-- a host starts a task with a throttle of one behind the report of the host before it, and not in front of that
abbrev throttled : PlanOf
throttled =
    bare_plan (codes "a" ∷ codes "b" ∷ [])
    (bare_play (codes "all") (bare_tree 0 1 0) (record runs { throttle = 1 } ∷ []) (true ∷ true ∷ []) ∷ [])

behind_its_report : is_legal throttled (Open ∷ a ∷ send 0 0 ∷ went 0 0 ∷ b ∷ send 1 1 ∷ went 1 1 ∷ Turn ∷ Close ∷ []) ≡ true
unfolding on_facts
behind_its_report = refl

in_front_of_its_report : IsFirstIllegal throttled (Open ∷ a ∷ send 0 0 ∷ b ∷ went 0 0 ∷ send 1 1 ∷ went 1 1 ∷ Turn ∷ Close ∷ []) 3 name.Start
unfolding on_facts
in_front_of_its_report = record { event = b; there = refl; before = refl; illegal = refl; called = refl }

-- no attempt but the first goes out first, and a report is one of the attempt that is out
abbrev send_of_attempt : ℕ → Event
send_of_attempt attempt = Send (record { 0 = 0 }) 0 attempt (record { 0 = 0 })

abbrev went_at_attempt : ℕ → Event
went_at_attempt attempt = Reported (record { ticket = record { 0 = 0 }; host = record { 0 = 0 }; item = 0; attempt = attempt; outcome = Ran (pos 0) [] [] })

second_attempt_first : IsFirstIllegal throttled (Open ∷ a ∷ send_of_attempt 2 ∷ []) 2 name.Send
unfolding on_facts
second_attempt_first = record { event = send_of_attempt 2; there = refl; before = refl; illegal = refl; called = refl }

no_attempt_0 : IsFirstIllegal throttled (Open ∷ a ∷ send_of_attempt 0 ∷ []) 2 name.Send
unfolding on_facts
no_attempt_0 = record { event = send_of_attempt 0; there = refl; before = refl; illegal = refl; called = refl }

report_of_its_attempt : is_legal throttled (Open ∷ a ∷ send_of_attempt 1 ∷ went_at_attempt 1 ∷ []) ≡ true
unfolding on_facts
report_of_its_attempt = refl

report_of_another_attempt : IsFirstIllegal throttled (Open ∷ a ∷ send_of_attempt 1 ∷ went_at_attempt 2 ∷ []) 3 name.Report
unfolding on_facts
report_of_another_attempt = record { event = went_at_attempt 2; there = refl; before = refl; illegal = refl; called = refl }

-- a stop, and other forks, are legal wherever they stand; the pool has 256 workers
stopped_twice : is_legal hello (Open ∷ a ∷ b ∷ Turn ∷ Close ∷ Stop ∷ Stop ∷ Forks 1 ∷ []) ≡ true
unfolding on_facts
stopped_twice = refl

forks_of_the_pool : is_legal hello (Forks 256 ∷ Stop ∷ []) ≡ true
forks_of_the_pool = refl

forks_past_the_pool : IsFirstIllegal hello (Stop ∷ Forks 257 ∷ []) 1 name.Forks
forks_past_the_pool = record { event = Forks 257; there = refl; before = refl; illegal = refl; called = refl }

no_forks : IsFirstIllegal hello (Forks 0 ∷ []) 0 name.Forks
no_forks = record { event = Forks 0; there = refl; before = refl; illegal = refl; called = refl }
