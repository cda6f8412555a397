-- Worked tasks of two items, which are sent one after another.
use Rattle.std.specs.Prelude.{◌≡◌, ℕ, pos, true, false, List, [], ◌∷◌, codes, Some, None, option_map, refl}
use Rattle.std.specs.Option.{option_map_or}
use Rattle.pb_value.specs.Datum.{text, list, items_of}
use Rattle.pb_facts.specs.Facts.{no_facts}
use Rattle.pb_outcome.specs.declared.item.Item.{Item}
use Rattle.pb_outcome.specs.declared.item.Planned.TheVariants.{Sends}
use Rattle.pb_outcome.specs.declared.job.Call.TheVariants.{Shell as ShellCall}
use Rattle.pb_outcome.specs.declared.outcome.Form.{Form}
use Rattle.pb_outcome.specs.declared.outcome.Form.TheVariants.{Ran, Unreachable as NoAnswer}
use Rattle.pb_outcome.specs.Results.{ran_result, lost}
use Rattle.pb_play.specs.declared.modules.Module.TheVariants.{Shell}
use Rattle.pb_play.specs.declared.task.Task.{Task}
use Rattle.pb_task_vars.specs.FromPlaces.{place_of, bare_task, bare_place}
use Rattle.pb_task_vars.specs.FromPlan.{PlayOf, PlanOf, bare_play, bare_plan, bare_tree}
use Rattle.pb_tree.specs.declared.tree.Status.TheVariants as status
use Rattle.pb_task_vars.specs.Results.{items_at, on_tasks}
use Rattle.pb_host.specs.Host.{HostOf, first_row, none_counted, joined, progressed, sent, reported}
use Rattle.pb_host.specs.Runs.{is_running, is_out, item_of, may_send_item, awaits}
use Rattle.pb_host.specs.StepResults.{report_result}
use Rattle.pb_host.specs.declared.step_result.StepResult.{StepResult}
use Rattle.pb_host.specs.declared.step_result.Retried.{Retried}

abbrev play : PlayOf
play = bare_play (codes "p") (bare_tree 0 1 0) (bare_place (codes "list") (Shell (codes "ls")) ∷ []) (true ∷ [])

abbrev plan : PlanOf
plan = bare_plan (codes "h" ∷ []) (play ∷ [])

abbrev item_with : List ℕ → Item
item_with name = record { value = Some (text name); delegate = None; tried = 0; step = Sends (ShellCall (codes "ls")) }

abbrev two_items : List Item
two_items = item_with (codes "a") ∷ item_with (codes "b") ∷ []

-- the task starts with these items, and each of them is sent and comes back well
abbrev started : HostOf
started = progressed plan.inventory play 0 two_items (joined play.tree true (first_row 0))

abbrev out : HostOf → HostOf
out row = sent (record { 0 = 7 }) row

abbrev well : Form
well = Ran (pos 0) [] []

abbrev no_route : Form
no_route = NoAnswer (codes "no route")

abbrev half : HostOf
half = reported plan play well (out started)

abbrev whole : HostOf
whole = reported plan play well (out half)

-- the first item goes first, and no other
first_is_next : item_of started ≡ Some 0
first_is_next = refl

second_waits : may_send_item 1 1 started ≡ false
second_waits = refl

it_goes_at_its_first_attempt : may_send_item 0 1 started ≡ true
it_goes_at_its_first_attempt = refl

not_at_its_second : may_send_item 0 2 started ≡ false
not_at_its_second = refl

-- while its job is out nothing is sent, and only it is awaited
none_beside_it : may_send_item 0 1 (out started) ≡ false
none_beside_it = refl

it_is_awaited : awaits (record { 0 = 7 }) 0 1 (out started) ≡ true
it_is_awaited = refl

second_is_not_awaited : awaits (record { 0 = 7 }) 1 1 (out started) ≡ false
second_is_not_awaited = refl

another_attempt_is_not_awaited : awaits (record { 0 = 7 }) 0 2 (out started) ≡ false
another_attempt_is_not_awaited = refl

-- then the second goes
second_is_next : item_of half ≡ Some 1
unfolding on_tasks
second_is_next = refl

second_may_go : may_send_item 1 1 half ≡ true
unfolding on_tasks
second_may_go = refl

goes_on : is_running half ≡ true
unfolding on_tasks
goes_on = refl

none_is_out : is_out half ≡ false
unfolding on_tasks
none_is_out = refl

counts_nothing_yet : half.counts ≡ none_counted
unfolding on_tasks
counts_nothing_yet = refl

-- and the task ends, which counts once
ends : is_running whole ≡ false
unfolding on_tasks
ends = refl

counts_once : whole.counts ≡ record none_counted { ok = 1; changed = 1 }
unfolding on_tasks
counts_once = refl

-- each report tells of its item
tells_of_the_second : option_map_or (λ (d : StepResult). d.items) (report_result plan play well (out half)) [] ≡ (1, ran_result true (pos 0) [] []) ∷ []
unfolding on_tasks
tells_of_the_second = refl

-- an item that finds its host out of reach ends the task: the other isn't sent
ends_without_its_host : is_running (reported plan play no_route (out started)) ≡ false
unfolding on_tasks
ends_without_its_host = refl

host_is_lost : (reported plan play no_route (out started)).status ≡ status.Gone
unfolding on_tasks
host_is_lost = refl

counts_as_unreachable : (reported plan play no_route (out started)).counts ≡ record none_counted { unreachable = 1 }
unfolding on_tasks
counts_as_unreachable = refl

tells_of_the_lost : option_map_or (λ (d : StepResult). d.items) (report_result plan play no_route (out started)) [] ≡ (0, lost (codes "no route")) ∷ []
unfolding on_tasks
tells_of_the_lost = refl

-- a loop has an item for each of its values
abbrev looped : Task
looped =
    record (bare_task (codes "list") (Shell (codes "ls"))) { looped = Some (record { over = list (items_of (text (codes "a") ∷ text (codes "b") ∷ [])); variable = codes "item" }) }

abbrev looping : PlayOf
looping = bare_play (codes "p") (bare_tree 0 1 0) (place_of looped ∷ []) (true ∷ [])

abbrev one_host : PlanOf
one_host = bare_plan (codes "h" ∷ []) (looping ∷ [])

loop_has_two : items_at one_host looping 0 no_facts 0 ≡ two_items
unfolding on_tasks
loop_has_two = refl

-- a task that is tried twice more at most where it failed: its first attempt fails, and the second goes well
abbrev tried_thrice : Task
tried_thrice = record (bare_task (codes "list") (Shell (codes "ls"))) { retrying = Some (record { until = None; retries = 2; delay = 0 }) }

abbrev trying : PlayOf
trying = bare_play (codes "p") (bare_tree 0 1 0) (place_of tried_thrice ∷ []) (true ∷ [])

abbrev badly : Form
badly = Ran (pos 1) [] []

abbrev begun : HostOf
begun = progressed plan.inventory trying 0 two_items (joined trying.tree true (first_row 0))

abbrev again : HostOf
again = reported plan trying badly (out begun)

abbrev last_time : HostOf
last_time = reported plan trying badly (out again)

-- then the same item goes at its second attempt, and no other
it_waits_still : item_of again ≡ Some 0
unfolding on_tasks
it_waits_still = refl

second_attempt_may_go : may_send_item 0 2 again ≡ true
unfolding on_tasks
second_attempt_may_go = refl

first_attempt_is_behind_it : may_send_item 0 1 again ≡ false
unfolding on_tasks
first_attempt_is_behind_it = refl

second_attempt_is_awaited : awaits (record { 0 = 7 }) 0 2 (out again) ≡ true
unfolding on_tasks
second_attempt_is_awaited = refl

-- its report tells of the attempt alone, and ends nothing
tells_of_the_attempt : option_map (λ (r : Retried). r.attempt) (option_map_or (λ (d : StepResult). d.retried) (report_result plan trying badly (out begun)) None) ≡ Some 1
unfolding on_tasks
tells_of_the_attempt = refl

tells_of_no_item : option_map_or (λ (d : StepResult). d.items) (report_result plan trying badly (out begun)) [] ≡ []
unfolding on_tasks
tells_of_no_item = refl

attempts_do_not_count : again.counts ≡ none_counted
unfolding on_tasks
attempts_do_not_count = refl

-- the second goes well: the other item is next, at its first attempt
other_item_is_next : may_send_item 1 1 (reported plan trying well (out again)) ≡ true
unfolding on_tasks
other_item_is_next = refl

tells_of_no_attempt : option_map_or (λ (d : StepResult). d.retried) (report_result plan trying well (out again)) None ≡ None
unfolding on_tasks
tells_of_no_attempt = refl

-- or fails too, and so does the third, which is the last
third_attempt_may_go : may_send_item 0 3 last_time ≡ true
unfolding on_tasks
third_attempt_may_go = refl

fails_for_good : may_send_item 1 1 (reported plan trying badly (out last_time)) ≡ true
unfolding on_tasks
fails_for_good = refl

-- nor is it tried again where its host is out of reach
is_tried_no_more : is_running (reported plan trying no_route (out again)) ≡ false
unfolding on_tasks
is_tried_no_more = refl
