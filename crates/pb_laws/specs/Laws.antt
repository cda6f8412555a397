-- What an operator may rely on in every run. Each law says of all that happens whether it fits what happened before it; what happened before stands newest
-- first.
use Rattle.std.specs.Prelude.{◌≡◌, ℕ, zero, suc, ◌+◌, ◌-◌, ◌==◌, nat_lt, nat_le, Bool, true, false, ◌&&◌, ◌||◌, not, List, [], ◌∷◌, ◌++◌, Option, Some, None, is_none, slice_get, slice_index_or, if◌then◌else◌}
use Rattle.std.specs.List.{list_any}
use Rattle.std.specs.Option.{option_map_or}
use Rattle.pb_limits.specs.Counts.{has_room_for}
use Rattle.pb_places.specs.Caught.{caught_places}
use Rattle.pb_places.specs.Place.{PlaceOf}
use Rattle.pb_play.specs.declared.retrying.Retrying.{Retrying}
use Rattle.pb_play.specs.declared.task.Task.{Task as PlayTask}
use Rattle.pb_planes.specs.Set.{is_in as is_member}
use Rattle.pb_plan.specs.Plan.{PlayOf, PlanOf, throttles_of}
use Rattle.pb_strategies.specs.MayStart.{is_linear}
use Rattle.pb_tree.specs.Answer.{AnswerOf}
use Rattle.pb_tree.specs.declared.answer.Kind.{Kind}
use Rattle.pb_tree.specs.declared.answer.Kind.TheVariants as kinds
use Rattle.pb_tree.specs.Tree.{Nodes, Nothing, Task, Block, Flush, TreeOf, size}
use Rattle.pb_tree.specs.Walk.{reach, is_halted, ends_in_flush, front}
use Rattle.pb_host.specs.declared.step_result.TaskEnd.{TaskEnd}
use Rattle.pb_state.specs.declared.event.Event.{Event}
use Rattle.pb_host.specs.declared.host.Counts.{Counts}
use Rattle.pb_hosts.specs.Hosts.{one_if}
use Rattle.pb_host.specs.Ends.{answer_of, kind_of, plain_answer}
use Rattle.pb_host.specs.Host.{place_of, no_tree}
use Rattle.pb_state.specs.Run.{IsLegal, IsLegalUnder, state_after_under, IsFinished}
use Rattle.pb_confluence.specs.FromRecap.{Failed, Unreachable, has, status_of, recap}
use Rattle.pb_laws.specs.History.{HostTask, Happening, MayRun, Opens, Starts, Sends, Reports, Ends, Given, Closes, Stops, history}

-- ---- what a law says of runs
-- each thing that happens fits what happened before it
abbrev pub holds_from : (List Happening → Happening → Bool) → List Happening → List Happening → Bool
holds_from law past [] = true
holds_from law past (now ∷ rest) = law past now && holds_from law (now ∷ past) rest

-- what has happened, newest first
abbrev pub so_far : List Happening → List Happening → List Happening
so_far past [] = past
so_far past (now ∷ rest) = so_far (now ∷ past) rest

-- in every run of every plan, with any number of forks and of workers, whether it goes on to its end or not
abbrev pub Always : (PlanOf → List Happening → Happening → Bool) → Type 0
Always law =
    (plan : PlanOf) (forks pool : ℕ) (trail : List Event) →
    IsLegalUnder plan forks pool trail → holds_from (law plan) [] (history plan forks pool trail) ≡ true

-- in every run where nothing can happen any more but commands, and no job is out
abbrev pub AtTheEnd : (PlanOf → List Happening → Bool) → Type 0
AtTheEnd law =
    (plan : PlanOf) (forks pool : ℕ) (trail : List Event) →
    IsLegalUnder plan forks pool trail → IsFinished plan (state_after_under plan forks pool trail)
    → law plan (so_far [] (history plan forks pool trail)) ≡ true

-- ---- own hosts: a host starts a task of a play only if the play's pattern and the limit select it, and only in a batch that it is in; and no host is in two
-- batches of a play
-- whether the pattern of a play and the limit select a host
abbrev pub selects : PlanOf → ℕ → ℕ → Bool
selects plan play host = option_map_or (λ (p : PlayOf). is_member p.hosts host) (slice_get plan.plays play) false

-- the hosts of the batch that is open, if it is one of this play
abbrev pub batch_of : ℕ → List Happening → List Bool
batch_of play [] = []
batch_of play (Opens other hosts ∷ past) = if other == play then hosts else []
batch_of play (Closes other ∷ past) = []
batch_of play (now ∷ past) = batch_of play past

-- whether some host is in both sets, each of which says of hosts by their numbers whether they are in it
abbrev pub share : List Bool → List Bool → Bool
share [] others = false
share (a ∷ hosts) [] = false
share (a ∷ hosts) (b ∷ others) = (a && b) || share hosts others

-- whether one of these hosts was in a batch of the play
abbrev pub some_were_in : ℕ → List Bool → List Happening → Bool
some_were_in play hosts [] = false
some_were_in play hosts (Opens other before ∷ past) = ((other == play) && share before hosts) || some_were_in play hosts past
some_were_in play hosts (now ∷ past) = some_were_in play hosts past

-- of a start, and of a batch that opens; all else that happens fits
abbrev pub own_hosts : PlanOf → List Happening → Happening → Bool
own_hosts plan past (Starts task) = selects plan task.play task.host && is_member (batch_of task.play past) task.host
own_hosts plan past (Opens play hosts) = not (some_were_in play hosts past)
own_hosts plan past now = true

-- ---- forks: where a host starts, fewer hosts run than may, and where its task has a throttle, fewer than that run this task
abbrev pub may_run : List Happening → ℕ
may_run [] = 0
may_run (MayRun n ∷ past) = n
may_run (now ∷ past) = may_run past

-- how many hosts run a task of this kind: one more with each start, and one fewer with each end
abbrev pub running : (HostTask → Bool) → List Happening → ℕ
running of [] = 0
running of (Starts task ∷ past) = running of past + one_if (of task)
running of (Ends task end notified ∷ past) = running of past - one_if (of task)
running of (now ∷ past) = running of past

-- whichever task it is
abbrev pub any_task : HostTask → Bool
any_task task = true

-- the task at this place of this play, whichever host runs it
abbrev pub task_at : ℕ → ℕ → HostTask → Bool
task_at play place task = (play == task.play) && (place == task.place)

-- 0 is none
abbrev pub throttle_at : PlanOf → ℕ → ℕ → ℕ
throttle_at plan play place = option_map_or (λ (p : PlayOf). slice_index_or (throttles_of p.places) place 0) (slice_get plan.plays play) 0

-- of a start; all else that happens fits
abbrev pub within_forks : PlanOf → List Happening → Happening → Bool
within_forks plan past (Starts task) =
    nat_lt (running any_task past) (may_run past) && has_room_for (running (task_at task.play task.place) past) (throttle_at plan task.play task.place)
within_forks plan past now = true

-- ---- where a host has come to in its play
abbrev pub tree_at : PlanOf → ℕ → TreeOf
tree_at plan play = option_map_or (λ (p : PlayOf). p.tree) (slice_get plan.plays play) no_tree

-- what a host answered in the batch that is open, oldest first: by how its tasks ended there, and by what it was given
abbrev pub answers : ℕ → List Happening → List AnswerOf
answers host [] = []
answers host (Opens play hosts ∷ past) = []
answers host (Closes play ∷ past) = []
answers host (Ends task end notified ∷ past) = if task.host == host then answers host past ++ answer_of end notified ∷ [] else answers host past
answers host (Given task kind ∷ past) = if task.host == host then answers host past ++ plain_answer kind ∷ [] else answers host past
answers host (now ∷ past) = answers host past

-- the place to which that leads it in the play's tree; none where it has walked to its end
abbrev pub leads_to : PlanOf → ℕ → ℕ → List Happening → Option ℕ
leads_to plan play host past = place_of (reach (tree_at plan play) (answers host past))

-- whether the host of a task stands at its place; a host at its end stands nowhere
abbrev pub stands_at : PlanOf → HostTask → List Happening → Bool
stands_at plan task past = option_map_or (λ p. p == task.place) (leads_to plan task.play task.host past) false

-- of each host of a batch, whose first has the number h
abbrev pub each_host : (ℕ → Bool) → ℕ → List Bool → Bool
each_host test h [] = true
each_host test h (inside ∷ hosts) = (not inside || test h) && each_host test (h + 1) hosts

-- the same place of the same play, on the same host
abbrev pub is_same_task : HostTask → HostTask → Bool
is_same_task a b = (a.play == b.play) && (a.host == b.host) && (a.place == b.place)

-- whether a host has started a task and not ended it
abbrev pub runs : HostTask → List Happening → Bool
runs task [] = false
runs task (Starts other ∷ past) = is_same_task other task || runs task past
runs task (Ends other end notified ∷ past) = not (is_same_task other task) && runs task past
runs task (now ∷ past) = runs task past

-- ---- order: a host starts the task to which its answers lead it, and runs no other; it ends the task that it runs, and is given an answer only where it stands,
-- so that it passes no task over; the places at which it starts in a play rise, so that it starts none twice; and in a linear play it starts none while a
-- host of the batch stands at, or runs, one before it
abbrev pub is_of : ℕ → HostTask → Bool
is_of host task = task.host == host

-- whether all places at which the task's host started before in its play stand before the task's own
abbrev pub rises : HostTask → List Happening → Bool
rises task [] = true
rises task (Starts other ∷ past) = (not ((other.host == task.host) && (other.play == task.play)) || nat_lt other.place task.place) && rises task past
rises task (now ∷ past) = rises task past

-- whether the play with this number has the linear strategy; a number that is no play's hasn't
abbrev pub is_linear_play : PlanOf → ℕ → Bool
is_linear_play plan play = option_map_or (λ (p : PlayOf). is_linear p.strategy) (slice_get plan.plays play) false

-- whether a host of the batch is at its end, or at no place before this task's
abbrev pub is_not_before : PlanOf → HostTask → List Happening → ℕ → Bool
is_not_before plan task past host = option_map_or (λ p. nat_le task.place p) (leads_to plan task.play host past) true

-- of a start; all else that happens fits
abbrev pub places_rise : PlanOf → List Happening → Happening → Bool
places_rise plan past (Starts task) = rises task past
places_rise plan past now = true

-- of a start, of a task that ends, and of an answer that a host is given; all else that happens fits
abbrev pub in_order : PlanOf → List Happening → Happening → Bool
in_order plan past (Starts task) =
    stands_at plan task past && (running (is_of task.host) past == 0)
    && (not (is_linear_play plan task.play) || each_host (is_not_before plan task past) 0 (batch_of task.play past))
in_order plan past (Ends task end notified) = stands_at plan task past && runs task past
in_order plan past (Given task kind) = stands_at plan task past
in_order plan past now = true

-- ---- out is out: a host that couldn't be reached starts nothing more; one that failed where no rescue catches that, or that was halted, starts nothing more but
-- the always parts round the place where that was and the handlers that are forced, unless one of these ends the play for it
-- whether the place p is one of so many places, the first of which is `at`
abbrev pub is_within : ℕ → ℕ → ℕ → Bool
is_within at count p = nat_le at p && nat_lt p (at + count)

-- whether the place q stands in the always part of a block that has the place p in its body or its rescue; the first place of the nodes is `at`
abbrev pub is_always_for : ℕ → ℕ → Nodes → ℕ → ℕ → Bool
is_always_for handlers at Nothing p q = false
is_always_for handlers at (Task rest) p q = is_always_for handlers (at + 1) rest p q
is_always_for handlers at (Block body rescue always rest) p q =
    (is_within at (size handlers body + size handlers rescue) p && is_within (at + size handlers body + size handlers rescue) (size handlers always) q)
    || is_always_for handlers at body p q || is_always_for handlers (at + size handlers body) rescue p q
    || is_always_for handlers (at + size handlers body + size handlers rescue) always p q
    || is_always_for handlers (at + size handlers body + size handlers rescue + size handlers always) rest p q
is_always_for handlers at (Flush rest) p q = is_always_for handlers (at + handlers) rest p q

-- the last handlers of a play, which run after a failure too
abbrev pub is_forced : TreeOf → ℕ → Bool
is_forced tree q = tree.force_handlers && ends_in_flush tree.nodes && nat_le (size tree.handlers (front tree.nodes)) q

-- whether a host out at the first of two tasks of a play may still start the second: in an always part round it, or as a forced handler
abbrev pub may_follow : PlanOf → HostTask → HostTask → Bool
may_follow plan before task =
    (before.play == task.play)
    && (is_always_for (tree_at plan task.play).handlers 0 (tree_at plan task.play).nodes before.place task.place || is_forced (tree_at plan task.play) task.place)

-- whether a failure of this task is caught: its place stands in the body of a block that has a rescue
abbrev pub is_caught : PlanOf → HostTask → Bool
is_caught plan task = slice_index_or (caught_places (tree_at plan task.play)) task.place false

-- whether what a host answered at a place keeps it from starting a task later; or else what it answered before that does
abbrev pub keeps_out : PlanOf → HostTask → Kind → HostTask → Bool → Bool
keeps_out plan before kinds.Good task else_so = else_so
keeps_out plan before kinds.Ended task else_so = false
keeps_out plan before kinds.Gone task else_so = true
keeps_out plan before kinds.Halted task else_so = not (may_follow plan before task) || else_so
keeps_out plan before kinds.Bad task else_so = (not (is_caught plan before) && not (may_follow plan before task)) || else_so

-- A host is halted once in a batch: halted again while it goes through always parts, it goes on with them.
abbrev pub is_halted_again : ℕ → Kind → List Happening → Bool
is_halted_again host kind past = is_halted kind && list_any (λ (a : AnswerOf). is_halted a.kind) (answers host past)

-- whether what the task's host answered so far, in this play or before, keeps it from starting the task
abbrev pub is_kept_out : PlanOf → HostTask → List Happening → Bool
is_kept_out plan task [] = false
is_kept_out plan task (Ends before end notified ∷ past) =
    if before.host == task.host then keeps_out plan before (kind_of end) task (is_kept_out plan task past) else is_kept_out plan task past
is_kept_out plan task (Given before kind ∷ past) =
    if (before.host == task.host) && not (is_halted_again before.host kind past) then keeps_out plan before kind task (is_kept_out plan task past) else is_kept_out plan task past
is_kept_out plan task (now ∷ past) = is_kept_out plan task past

-- of a start; all else that happens fits
abbrev pub out_is_out : PlanOf → List Happening → Happening → Bool
out_is_out plan past (Starts task) = not (is_kept_out plan task past)
out_is_out plan past now = true

-- ---- everything was done: where a batch closes each of its hosts has walked to its end; and once a run is finished that wasn't stopped, and in which some host may
-- run, each batch that opened has closed
abbrev pub have_walked : PlanOf → List Happening → Happening → Bool
have_walked plan past (Closes play) = each_host (λ host. is_none (leads_to plan play host past)) 0 (batch_of play past)
have_walked plan past now = true

-- whether the batch that opened last hasn't closed
abbrev pub is_open : List Happening → Bool
is_open [] = false
is_open (Opens play hosts ∷ past) = true
is_open (Closes play ∷ past) = false
is_open (now ∷ past) = is_open past

-- whether the run was commanded to stop
abbrev pub was_stopped : List Happening → Bool
was_stopped [] = false
was_stopped (Stops ∷ past) = true
was_stopped (now ∷ past) = was_stopped past

-- of all that happened in a run: it was stopped, no host may run, or no batch is open
abbrev pub all_closed : PlanOf → List Happening → Bool
all_closed plan past = was_stopped past || (may_run past == 0) || not (is_open past)

-- ---- jobs: their tickets are 0, 1, 2 and so on; a job that goes out is of a task that its host runs; and each report answers a job that is out, for its host
-- and its item, so that none is answered twice
abbrev pub jobs_sent : List Happening → ℕ
jobs_sent [] = 0
jobs_sent (Sends task item attempt ticket ∷ past) = jobs_sent past + 1
jobs_sent (now ∷ past) = jobs_sent past

-- a job of a host, for an item, is out under a ticket: it was sent so, and no report under that ticket has come since
abbrev pub is_out : ℕ → ℕ → ℕ → List Happening → Bool
is_out host item ticket [] = false
is_out host item ticket (Sends task other attempt under ∷ past) = if under == ticket then (task.host == host) && (other == item) else is_out host item ticket past
is_out host item ticket (Reports from other under ∷ past) = not (under == ticket) && is_out host item ticket past
is_out host item ticket (now ∷ past) = is_out host item ticket past

-- of a job that goes out, and of a report; all else that happens fits
abbrev pub jobs_in_order : PlanOf → List Happening → Happening → Bool
jobs_in_order plan past (Sends task item attempt ticket) = (ticket == jobs_sent past) && runs task past
jobs_in_order plan past (Reports host item ticket) = is_out host item ticket past
jobs_in_order plan past now = true

-- and once the run is finished, all of them are answered
abbrev pub is_answered : ℕ → List Happening → Bool
is_answered ticket [] = false
is_answered ticket (Reports host item under ∷ past) = (under == ticket) || is_answered ticket past
is_answered ticket (now ∷ past) = is_answered ticket past

-- the jobs with the tickets below this one
abbrev pub answered_below : ℕ → List Happening → Bool
answered_below zero past = true
answered_below (suc ticket) past = is_answered ticket past && answered_below ticket past

-- of all that happened in a run: each job that went out is answered
abbrev pub all_answered : PlanOf → List Happening → Bool
all_answered plan past = answered_below (jobs_sent past) past

-- ---- attempts: those at an item are numbered from 1, and there are no more of them than its task allows; each goes out only once what came of the one before is
-- reported, and then none at an item before it follows; and a task ends only once what came of its last one is reported
-- one, and as many more as a task that may be tried again says
abbrev pub most_attempts : PlayTask → ℕ
most_attempts task = option_map_or (λ (r : Retrying). r.retries + 1) task.retrying 1

-- the same of the task at a place of a play; 1 where there is no such place
abbrev pub attempts_in : ℕ → PlayOf → ℕ
attempts_in place play = option_map_or (λ (at : PlaceOf). most_attempts at.task) (slice_get play.places place) 1

-- the same by the number of the play, and then that of the place; 1 where there is no such task
abbrev pub attempts_at : PlanOf → ℕ → ℕ → ℕ
attempts_at plan play place = option_map_or (attempts_in place) (slice_get plan.plays play) 1

-- which attempt, at which item of a task, went out last since its host started it
abbrev pub last_sent : HostTask → List Happening → Option (ℕ × ℕ)
last_sent task [] = None
last_sent task (Starts other ∷ past) = if is_same_task other task then None else last_sent task past
last_sent task (Sends other item attempt ticket ∷ past) = if is_same_task other task then Some (item, attempt) else last_sent task past
last_sent task (now ∷ past) = last_sent task past

-- the next attempt at that item, or the first one at an item behind it
abbrev pub follows_in_item : ℕ → ℕ → Option (ℕ × ℕ) → Bool
follows_in_item item attempt None = attempt == 1
follows_in_item item attempt (Some last) = ((item == last.0) && (attempt == last.1 + 1)) || (nat_lt last.0 item && (attempt == 1))

-- whether what came of a job of a host is still to be reported
abbrev pub is_awaited : ℕ → List Happening → Bool
is_awaited host [] = false
is_awaited host (Sends task item attempt ticket ∷ past) = (task.host == host) || is_awaited host past
is_awaited host (Reports from item ticket ∷ past) = not (from == host) && is_awaited host past
is_awaited host (now ∷ past) = is_awaited host past

-- of a job that goes out, and of a task that ends; all else that happens fits
abbrev pub attempts_in_order : PlanOf → List Happening → Happening → Bool
attempts_in_order plan past (Sends task item attempt ticket) =
    follows_in_item item attempt (last_sent task past) && nat_le attempt (attempts_at plan task.play task.place) && not (is_awaited task.host past)
attempts_in_order plan past (Ends task end notified) = not (is_awaited task.host past)
attempts_in_order plan past now = true

-- ---- the recap adds up: of each host the tasks that count as ok, failed, rescued, skipped and unreachable are together those that ended on it; and the exit
-- status is 0 exactly where no host has one that counts as failed or unreachable
-- a task of `meta` counts only where it failed
abbrev pub counts : TaskEnd → Bool
counts end = is_none end.meta || end.result.failed

-- how many tasks that count have ended on the host with this number
abbrev pub tasks_ended : ℕ → List Happening → ℕ
tasks_ended host [] = 0
tasks_ended host (Ends task end notified ∷ past) = tasks_ended host past + one_if ((task.host == host) && counts end)
tasks_ended host (now ∷ past) = tasks_ended host past

-- of these hosts, whose first has the number h
abbrev pub add_up : ℕ → List Counts → List Happening → Bool
add_up h [] past = true
add_up h (c ∷ rest) past = (c.ok + c.failed + c.rescued + c.skipped + c.unreachable == tasks_ended h past) && add_up (h + 1) rest past

-- a host has a task that counts as failed or as unreachable
abbrev pub has_trouble : Counts → Bool
has_trouble c = has Failed c || has Unreachable c

-- the exit status that comes of these counts is 0 exactly where no host has trouble
abbrev pub status_tells : List Counts → Bool
status_tells all = if list_any has_trouble all then not (status_of all == 0) else status_of all == 0

-- the counts add up, and the status tells, in every legal run, whether it goes on to its end or not
abbrev pub RecapAddsUp : Type 0
RecapAddsUp =
    (plan : PlanOf) (pool : ℕ) (trail : List Event) →
    IsLegal plan pool trail
    → (add_up 0 (recap plan pool trail) (so_far [] (history plan plan.forks pool trail)) ≡ true) × (status_tells (recap plan pool trail) ≡ true)
