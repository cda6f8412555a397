-- Worked histories: of each law one that keeps it and one that breaks it; and what the runs of two small plans tell.
use Rattle.std.specs.Prelude.{◌≡◌, ℕ, pos, Bool, true, false, List, [], ◌∷◌, codes, Some, None, refl}
use Rattle.pb_outcome.specs.declared.outcome.Form.TheVariants.{Ran}
use Rattle.pb_outcome.specs.declared.gather.TaskResult.{TaskResult}
use Rattle.pb_plan.specs.Plan.{PlanOf, PlayOf, bare_play, bare_plan, bare_tree}
use Rattle.pb_confluence.specs.FromRecap.{recap}
use Rattle.pb_state.specs.BatchRows.{start, send, went}
use Rattle.pb_state.specs.BlockRows.{runs, refuses, says, last}
use Rattle.pb_host.specs.FactRows.{on_facts}
use Rattle.pb_host.specs.declared.step_result.TaskEnd.{TaskEnd}
use Rattle.pb_state.specs.declared.event.Event.{Event}
use Rattle.pb_state.specs.declared.event.Event.TheVariants.{Open, Send, Report as Reported, Turn, Close, Stop, Forks}
use Rattle.pb_state.specs.Run.{IsLegal}
use Rattle.pb_host.specs.declared.host.Counts.{Counts}
use Rattle.pb_tree.specs.declared.answer.Kind.TheVariants as kinds
use Rattle.pb_tree.specs.Tree.{Nothing, Task, Block, Flush}
use Rattle.pb_laws.specs.History.{HostTask, Happening, MayRun, Opens, Starts, Sends, Reports, Ends, Given, Closes, Stops, history}
use Rattle.pb_laws.specs.Laws.{holds_from, so_far, own_hosts, within_forks, in_order, out_is_out, have_walked, all_closed, jobs_in_order, all_answered, attempts_in_order, add_up, status_tells}

-- two hosts, of which the first alone is one of the first play's, and both are of the second; each play has one command, with a throttle of one
abbrev one_task : List Bool → PlayOf
one_task hosts = bare_play (codes "p") (bare_tree 0 1 0) (record runs { throttle = 1 } ∷ []) hosts

abbrev two_plays : PlanOf
two_plays = bare_plan (codes "a" ∷ codes "b" ∷ []) (one_task (true ∷ false ∷ []) ∷ one_task (true ∷ true ∷ []) ∷ [])

-- the task of a play on a host
abbrev on : ℕ → ℕ → HostTask
on play host = record { play = play; host = host; place = 0 }

abbrev went_well : TaskResult
went_well = record { failed = false; ignored = false; skipped = false; changed = true; unreachable = false }

abbrev well : TaskEnd
well = record { result = went_well; is_caught = false; meta = None }

abbrev badly : TaskEnd
badly = record { result = record went_well { failed = true; changed = false }; is_caught = false; meta = None }

abbrev lost : TaskEnd
lost = record { result = record went_well { changed = false; unreachable = true }; is_caught = false; meta = None }

-- ---- own hosts
second_in_second : holds_from (own_hosts two_plays) [] (MayRun 5 ∷ Opens 1 (false ∷ true ∷ []) ∷ Starts (on 1 1) ∷ []) ≡ true
second_in_second = refl

second_in_first : holds_from (own_hosts two_plays) [] (MayRun 5 ∷ Opens 0 (true ∷ true ∷ []) ∷ Starts (on 0 1) ∷ []) ≡ false
second_in_first = refl

not_in_its_batch : holds_from (own_hosts two_plays) [] (MayRun 5 ∷ Opens 1 (true ∷ false ∷ []) ∷ Starts (on 1 1) ∷ []) ≡ false
not_in_its_batch = refl

behind_its_batch : holds_from (own_hosts two_plays) [] (MayRun 5 ∷ Opens 1 (true ∷ true ∷ []) ∷ Closes 1 ∷ Starts (on 1 1) ∷ []) ≡ false
behind_its_batch = refl

two_batches : holds_from (own_hosts two_plays) [] (Opens 1 (true ∷ false ∷ []) ∷ Closes 1 ∷ Opens 1 (false ∷ true ∷ []) ∷ []) ≡ true
two_batches = refl

twice_in_a_play : holds_from (own_hosts two_plays) [] (Opens 1 (true ∷ false ∷ []) ∷ Closes 1 ∷ Opens 1 (true ∷ true ∷ []) ∷ []) ≡ false
twice_in_a_play = refl

-- ---- forks
one_behind_the_other : holds_from (within_forks two_plays) [] (MayRun 1 ∷ Starts (on 1 0) ∷ Ends (on 1 0) well [] ∷ Starts (on 1 1) ∷ []) ≡ true
one_behind_the_other = refl

over_the_throttle : holds_from (within_forks two_plays) [] (MayRun 5 ∷ Starts (on 1 0) ∷ Starts (on 1 1) ∷ []) ≡ false
over_the_throttle = refl

-- another play's task is another one
beside_another : holds_from (within_forks two_plays) [] (MayRun 5 ∷ Starts (on 0 0) ∷ Starts (on 1 1) ∷ []) ≡ true
beside_another = refl

over_the_forks : holds_from (within_forks two_plays) [] (MayRun 1 ∷ Starts (on 0 0) ∷ Starts (on 1 1) ∷ []) ≡ false
over_the_forks = refl

more_forks : holds_from (within_forks two_plays) [] (MayRun 1 ∷ Starts (on 0 0) ∷ MayRun 2 ∷ Starts (on 1 1) ∷ []) ≡ true
more_forks = refl

fewer_forks : holds_from (within_forks two_plays) [] (MayRun 2 ∷ Starts (on 0 0) ∷ MayRun 1 ∷ Starts (on 1 1) ∷ []) ≡ false
fewer_forks = refl

-- ---- jobs
sent_and_back : holds_from (jobs_in_order two_plays) [] (Starts (on 1 0) ∷ Sends (on 1 0) 0 1 0 ∷ Reports 0 0 0 ∷ Sends (on 1 0) 1 1 1 ∷ Reports 0 1 1 ∷ []) ≡ true
sent_and_back = refl

ticket_left_out : holds_from (jobs_in_order two_plays) [] (Starts (on 1 0) ∷ Sends (on 1 0) 0 1 1 ∷ []) ≡ false
ticket_left_out = refl

sent_without_start : holds_from (jobs_in_order two_plays) [] (Starts (on 1 0) ∷ Sends (on 1 1) 0 1 0 ∷ []) ≡ false
sent_without_start = refl

sent_behind_the_end : holds_from (jobs_in_order two_plays) [] (Starts (on 1 0) ∷ Ends (on 1 0) well [] ∷ Sends (on 1 0) 0 1 0 ∷ []) ≡ false
sent_behind_the_end = refl

answered_twice : holds_from (jobs_in_order two_plays) [] (Starts (on 1 0) ∷ Sends (on 1 0) 0 1 0 ∷ Reports 0 0 0 ∷ Reports 0 0 0 ∷ []) ≡ false
answered_twice = refl

answered_for_another : holds_from (jobs_in_order two_plays) [] (Starts (on 1 0) ∷ Sends (on 1 0) 0 1 0 ∷ Reports 1 0 0 ∷ []) ≡ false
answered_for_another = refl

answered_unsent : holds_from (jobs_in_order two_plays) [] (Starts (on 1 0) ∷ Reports 0 0 0 ∷ []) ≡ false
answered_unsent = refl

both_answered : all_answered two_plays (so_far [] (Sends (on 1 0) 0 1 0 ∷ Sends (on 1 1) 0 1 1 ∷ Reports 1 0 1 ∷ Reports 0 0 0 ∷ [])) ≡ true
both_answered = refl

one_unanswered : all_answered two_plays (so_far [] (Sends (on 1 0) 0 1 0 ∷ Sends (on 1 1) 0 1 1 ∷ Reports 1 0 1 ∷ [])) ≡ false
one_unanswered = refl

-- ---- attempts
-- two hosts, and one command that may be tried once more
abbrev tried : PlanOf
tried =
    bare_plan (codes "a" ∷ codes "b" ∷ [])
    (bare_play (codes "p") (bare_tree 0 1 0) (record runs { task = record runs.task { retrying = Some (record { until = None; retries = 1; delay = 0 }) } } ∷ []) (true ∷ true ∷ []) ∷ [])

abbrev fits_attempts : List Happening → Bool
fits_attempts happens = holds_from (attempts_in_order tried) [] (Starts (on 0 0) ∷ happens)

tried_once_more : fits_attempts (Sends (on 0 0) 0 1 0 ∷ Reports 0 0 0 ∷ Sends (on 0 0) 0 2 1 ∷ Reports 0 0 1 ∷ Sends (on 0 0) 1 1 2 ∷ Reports 0 1 2 ∷ Ends (on 0 0) well [] ∷ []) ≡ true
tried_once_more = refl

tried_too_often : fits_attempts (Sends (on 0 0) 0 1 0 ∷ Reports 0 0 0 ∷ Sends (on 0 0) 0 2 1 ∷ Reports 0 0 1 ∷ Sends (on 0 0) 0 3 2 ∷ []) ≡ false
tried_too_often = refl

tried_before_its_report : fits_attempts (Sends (on 0 0) 0 1 0 ∷ Sends (on 0 0) 0 2 1 ∷ []) ≡ false
tried_before_its_report = refl

second_comes_first : fits_attempts (Sends (on 0 0) 0 2 0 ∷ []) ≡ false
second_comes_first = refl

first_comes_twice : fits_attempts (Sends (on 0 0) 0 1 0 ∷ Reports 0 0 0 ∷ Sends (on 0 0) 0 1 1 ∷ []) ≡ false
first_comes_twice = refl

-- once another item has an attempt, the one before it has no more
tried_later : fits_attempts (Sends (on 0 0) 0 1 0 ∷ Reports 0 0 0 ∷ Sends (on 0 0) 1 1 1 ∷ Reports 0 1 1 ∷ Sends (on 0 0) 0 2 2 ∷ []) ≡ false
tried_later = refl

ends_before_its_report : fits_attempts (Sends (on 0 0) 0 1 0 ∷ Ends (on 0 0) well [] ∷ []) ≡ false
ends_before_its_report = refl

-- hosts go on by themselves
beside_another_host : fits_attempts (Sends (on 0 0) 0 1 0 ∷ Starts (on 0 1) ∷ Sends (on 0 1) 0 1 1 ∷ Reports 0 0 0 ∷ Sends (on 0 0) 0 2 2 ∷ Reports 1 0 1 ∷ Ends (on 0 1) well [] ∷ []) ≡ true
beside_another_host = refl

-- a task that doesn't speak of it is tried once
tried_unasked : holds_from (attempts_in_order two_plays) [] (Starts (on 0 0) ∷ Sends (on 0 0) 0 1 0 ∷ Reports 0 0 0 ∷ Sends (on 0 0) 0 2 1 ∷ []) ≡ false
tried_unasked = refl

-- ---- the recap
abbrev none_yet : Counts
none_yet = record { ok = 0; changed = 0; unreachable = 0; failed = 0; skipped = 0; rescued = 0; ignored = 0 }

abbrev ends_two : List Happening
ends_two = Ends (on 0 0) well [] ∷ Ends (on 1 0) badly [] ∷ Ends (on 1 1) lost [] ∷ []

adds_up : add_up 0 (record none_yet { ok = 1; changed = 1; failed = 1 } ∷ record none_yet { unreachable = 1 } ∷ []) ends_two ≡ true
adds_up = refl

leaves_one_out : add_up 0 (record none_yet { ok = 1; changed = 1 } ∷ record none_yet { unreachable = 1 } ∷ []) ends_two ≡ false
leaves_one_out = refl

status_of_a_failure : status_tells (none_yet ∷ record none_yet { failed = 1 } ∷ []) ≡ true
status_of_a_failure = refl

-- ---- order, and who is out
abbrev open_both : List Happening
open_both = Opens 1 (true ∷ true ∷ []) ∷ []

in_their_order : holds_from (in_order two_plays) [] (MayRun 5 ∷ Opens 1 (true ∷ true ∷ []) ∷ Starts (on 1 0) ∷ Ends (on 1 0) well [] ∷ Starts (on 1 1) ∷ Ends (on 1 1) badly [] ∷ []) ≡ true
in_their_order = refl

twice_a_task : holds_from (in_order two_plays) [] (MayRun 5 ∷ Opens 1 (true ∷ true ∷ []) ∷ Starts (on 1 0) ∷ Ends (on 1 0) well [] ∷ Starts (on 1 0) ∷ []) ≡ false
twice_a_task = refl

closed_too_early : holds_from (have_walked two_plays) [] (Opens 1 (true ∷ true ∷ []) ∷ Starts (on 1 0) ∷ Ends (on 1 0) well [] ∷ Closes 1 ∷ []) ≡ false
closed_too_early = refl

closed_in_time : holds_from (have_walked two_plays) [] (Opens 1 (true ∷ true ∷ []) ∷ Starts (on 1 0) ∷ Ends (on 1 0) well [] ∷ Given (on 1 1) kinds.Halted ∷ Closes 1 ∷ []) ≡ true
closed_in_time = refl

starts_though_out : holds_from (out_is_out two_plays) [] (Starts (on 0 0) ∷ Ends (on 0 0) badly [] ∷ Starts (on 1 0) ∷ []) ≡ false
starts_though_out = refl

starts_though_lost : holds_from (out_is_out two_plays) [] (Starts (on 0 0) ∷ Ends (on 0 0) lost [] ∷ Starts (on 1 0) ∷ []) ≡ false
starts_though_lost = refl

others_go_on : holds_from (out_is_out two_plays) [] (Starts (on 0 0) ∷ Ends (on 0 0) badly [] ∷ Starts (on 1 1) ∷ []) ≡ true
others_go_on = refl

-- a block of which places 0 and 1 are the body, and 2 and 3 the always part; no host of the play may fail
abbrev always_part : PlanOf
always_part =
    bare_plan (codes "a" ∷ codes "b" ∷ [])
    (record (bare_play (codes "all") (record { nodes = Flush (Block (Task (Task Nothing)) Nothing (Task (Task Nothing)) last); handlers = 0; force_handlers = false }) (runs ∷ says ∷ says ∷ says ∷ []) (true ∷ true ∷ []))
    { max_fail_percentage = 0 }
    ∷ [])

abbrev at_place : ℕ → HostTask
at_place place = record { play = 0; host = 0; place = place }

always_runs : holds_from (out_is_out always_part) [] (Starts (at_place 0) ∷ Ends (at_place 0) badly [] ∷ Starts (at_place 2) ∷ Ends (at_place 2) well [] ∷ Starts (at_place 3) ∷ []) ≡ true
always_runs = refl

rest_of_body : holds_from (out_is_out always_part) [] (Starts (at_place 0) ∷ Ends (at_place 0) badly [] ∷ Starts (at_place 1) ∷ []) ≡ false
rest_of_body = refl

always_though_lost : holds_from (out_is_out always_part) [] (Starts (at_place 0) ∷ Ends (at_place 0) lost [] ∷ Starts (at_place 2) ∷ []) ≡ false
always_though_lost = refl

rest_though_halted : holds_from (out_is_out always_part) [] (Given (at_place 0) kinds.Halted ∷ Starts (at_place 1) ∷ []) ≡ false
rest_though_halted = refl

-- behind a failure in an always part the rest of that isn't walked, and a halt there changes nothing where the host was halted before
rest_of_always : holds_from (out_is_out always_part) [] (Starts (at_place 0) ∷ Ends (at_place 0) badly [] ∷ Starts (at_place 2) ∷ Ends (at_place 2) badly [] ∷ Starts (at_place 3) ∷ []) ≡ false
rest_of_always = refl

halted_again : holds_from (out_is_out always_part) [] (Given (at_place 0) kinds.Halted ∷ Starts (at_place 2) ∷ Ends (at_place 2) well [] ∷ Given (at_place 3) kinds.Halted ∷ Starts (at_place 3) ∷ []) ≡ true
halted_again = refl

-- the same where the body has a rescue, which is place 2
abbrev rescued : PlanOf
rescued = bare_plan (codes "a" ∷ []) (bare_play (codes "all") (record { nodes = Flush (Block (Task (Task Nothing)) (Task Nothing) Nothing last); handlers = 0; force_handlers = false }) (runs ∷ runs ∷ says ∷ []) (true ∷ []) ∷ [])

rescue_goes_on : holds_from (out_is_out rescued) [] (Starts (at_place 0) ∷ Ends (at_place 0) badly [] ∷ Starts (at_place 2) ∷ []) ≡ true
rescue_goes_on = refl

rescue_fails : holds_from (out_is_out rescued) [] (Starts (at_place 0) ∷ Ends (at_place 0) badly [] ∷ Starts (at_place 2) ∷ Ends (at_place 2) badly [] ∷ Starts (record { play = 1; host = 0; place = 0 }) ∷ []) ≡ false
rescue_fails = refl

-- a task, and a handler at places 0 and 2
abbrev handled : Bool → PlanOf
handled forces = bare_plan (codes "a" ∷ []) (bare_play (codes "all") (record { nodes = Flush (Task (Flush Nothing)); handlers = 1; force_handlers = forces }) (says ∷ runs ∷ says ∷ []) (true ∷ []) ∷ [])

forced_runs : holds_from (out_is_out (handled true)) [] (Starts (at_place 1) ∷ Ends (at_place 1) badly [] ∷ Starts (at_place 2) ∷ []) ≡ true
forced_runs = refl

not_forced : holds_from (out_is_out (handled false)) [] (Starts (at_place 1) ∷ Ends (at_place 1) badly [] ∷ Starts (at_place 2) ∷ []) ≡ false
not_forced = refl

left_open : all_closed two_plays (so_far [] (MayRun 5 ∷ open_both)) ≡ false
left_open = refl

left_open_by_a_stop : all_closed two_plays (so_far [] (MayRun 5 ∷ Opens 1 (true ∷ true ∷ []) ∷ Stops ∷ [])) ≡ true
left_open_by_a_stop = refl

-- ---- what runs tell
-- two tasks that end at once, and one of them fails
abbrev hello : PlanOf
hello = bare_plan (codes "a" ∷ codes "b" ∷ []) (bare_play (codes "all") (bare_tree 0 1 0) (refuses ∷ []) (true ∷ false ∷ []) ∷ one_task (true ∷ true ∷ []) ∷ [])

abbrev trail : List Event
trail = Open ∷ start 0 ∷ Turn ∷ Close ∷ Open ∷ start 1 ∷ send 1 0 ∷ Forks 2 ∷ went 1 0 ∷ Turn ∷ Close ∷ Stop ∷ []

tells : history hello 5 256 trail
    ≡ MayRun 5 ∷ Opens 0 (true ∷ false ∷ []) ∷ Starts (on 0 0) ∷ Ends (on 0 0) badly [] ∷ Closes 0 ∷ Opens 1 (false ∷ true ∷ []) ∷ Starts (on 1 1) ∷ Sends (on 1 1) 0 1 0 ∷ MayRun 2
    ∷ Reports 1 0 0 ∷ Ends (on 1 1) well [] ∷ Closes 1 ∷ Stops ∷ []
unfolding on_facts
tells = refl

counts_it : recap hello 256 trail ≡ record none_yet { failed = 1 } ∷ record none_yet { ok = 1; changed = 1 } ∷ []
unfolding on_facts
counts_it = refl

-- a host is halted at each turn while too many have failed, also in an always part, which it goes through all the same
abbrev fails : Event
fails = Reported (record { ticket = record { 0 = 0 }; host = record { 0 = 0 }; item = 0; attempt = 1; outcome = Ran (pos 1) [] [] })

abbrev halted_trail : List Event
halted_trail = Open ∷ start 0 ∷ send 0 0 ∷ start 1 ∷ send 1 1 ∷ fails ∷ went 1 1 ∷ Turn ∷ start 0 ∷ start 1 ∷ Turn ∷ start 0 ∷ start 1 ∷ Turn ∷ Close ∷ []

halted_twice : IsLegal always_part 256 halted_trail × (holds_from (out_is_out always_part) [] (history always_part 5 256 halted_trail) ≡ true)
unfolding on_facts
halted_twice = (refl, refl)

-- a command that fails is tried once more, and goes well
abbrev again : Event
again = Send (record { 0 = 0 }) 0 2 (record { 0 = 1 })

abbrev then_well : Event
then_well = Reported (record { ticket = record { 0 = 1 }; host = record { 0 = 0 }; item = 0; attempt = 2; outcome = Ran (pos 0) [] [] })

tells_attempts : history tried 5 256 (Open ∷ start 0 ∷ send 0 0 ∷ fails ∷ again ∷ then_well ∷ [])
    ≡ MayRun 5 ∷ Opens 0 (true ∷ true ∷ []) ∷ Starts (on 0 0) ∷ Sends (on 0 0) 0 1 0 ∷ Reports 0 0 0 ∷ Sends (on 0 0) 0 2 1 ∷ Reports 0 0 1 ∷ Ends (on 0 0) well [] ∷ []
unfolding on_facts
tells_attempts = refl
