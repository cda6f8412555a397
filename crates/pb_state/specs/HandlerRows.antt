-- Worked runs with handlers.
use Rattle.std.specs.Prelude.{◌≡◌, ℕ, ◌+◌, pos, Bool, true, false, List, [], ◌∷◌, ◌++◌, map, codes, Some, refl}
use Rattle.std.specs.Option.{option_map_or}
use Rattle.pb_outcome.specs.declared.outcome.Form.{Form}
use Rattle.pb_outcome.specs.declared.outcome.Form.TheVariants.{Ran}
use Rattle.pb_places.specs.Place.{PlaceOf}
use Rattle.pb_plan.specs.Plan.{PlanOf, bare_play}
use Rattle.pb_tree.specs.Tree.{Nodes, Nothing, Task, Block, Flush}
use Rattle.pb_tree.specs.declared.tree.Status.TheVariants as status
use Rattle.pb_state.specs.BlockRows.{says, runs, refuses, caught, last, alone, start, after_of, statuses, starts_at}
use Rattle.pb_host.specs.declared.step_result.StepResult.{StepResult}
use Rattle.pb_host.specs.declared.step_result.TaskDone.{TaskDone}
use Rattle.pb_state.specs.declared.event.Event.{Event}
use Rattle.pb_state.specs.declared.event.Event.TheVariants.{Open, Send, Report as Reported, Turn, Close}
use Rattle.pb_host.specs.declared.host.Counts.{Counts}
use Rattle.pb_host.specs.FactRows.{on_facts}
use Rattle.pb_state.specs.Machine.{pending_at}
use Rattle.pb_host.specs.Host.{HostOf, none_counted}
use Rattle.pb_state.specs.Run.{IsLegalUnder}

-- a play's handlers, of which each Flush has a place for each
abbrev handlers_from : ℕ → List PlaceOf → List PlaceOf
handlers_from n [] = []
handlers_from n (place ∷ places) = record place { handler = Some n } ∷ handlers_from (n + 1) places

abbrev pub flush : List PlaceOf → List PlaceOf
flush handlers = handlers_from 0 handlers

-- a command that notifies these handlers, and its job, which is the one with this ticket and comes to this
abbrev pub notifies : List ℕ → PlaceOf
notifies handlers = record runs { notifies = handlers }

abbrev pub command_to : ℕ → Form → List Event
command_to ticket outcome =
    start ∷ Send (record { 0 = 0 }) 0 1 (record { 0 = ticket })
    ∷ Reported (record { ticket = record { 0 = ticket }; host = record { 0 = 0 }; item = 0; attempt = 1; outcome = outcome }) ∷ []

abbrev pub command : ℕ → List Event
command ticket = command_to ticket (Ran (pos 0) [] [])

abbrev pub counts_of : PlanOf → List Event → List Counts
counts_of plan events = map (λ (row : HostOf). row.counts) (after_of plan events).rows

-- the handlers that the last event's task notified and that weren't pending, and those that are pending now
abbrev pub noted_by : PlanOf → List Event → List ℕ
noted_by plan events = option_map_or (λ (d : StepResult). option_map_or (λ (done : TaskDone). done.notified) d.done []) (after_of plan events).step_result []

abbrev pub pending_of : PlanOf → List Event → List Bool
pending_of plan events = pending_at (after_of plan events) 0

-- ---- two commands that notify both handlers, each of which shows a message
abbrev pub shown : List PlaceOf
shown = flush (says ∷ says ∷ [])

abbrev pub with_nodes : Bool → Nodes → ℕ → List PlaceOf → PlanOf
with_nodes force nodes handlers places = alone (bare_play (codes "all") (record { nodes = Flush nodes; handlers = handlers; force_handlers = force }) places (true ∷ []) ∷ [])

abbrev pub notified : PlanOf
notified = with_nodes false (Task (Task last)) 2 (shown ++ notifies (0 ∷ 1 ∷ []) ∷ notifies (0 ∷ 1 ∷ []) ∷ shown ++ shown)

abbrev pub first_command : List Event
first_command = Open ∷ command 0

abbrev pub two_commands : List Event
two_commands = first_command ++ Turn ∷ command 1

abbrev pub notified_run : List Event
notified_run = two_commands ++ Turn ∷ start ∷ Turn ∷ start ∷ Turn ∷ Close ∷ []

each_runs_once : IsLegalUnder notified 5 5 notified_run × (counts_of notified notified_run ≡ record none_counted { ok = 4; changed = 2 } ∷ [])
unfolding on_facts
each_runs_once = (refl, refl)

-- behind the first Flush with its two places come the commands, and then the second
runs_them_at : starts_at notified notified_run ≡ Some 2 ∷ Some 3 ∷ Some 4 ∷ Some 5 ∷ []
unfolding on_facts
runs_them_at = refl

notes_first : noted_by notified first_command ≡ 0 ∷ 1 ∷ []
unfolding on_facts
notes_first = refl

notes_no_more : (noted_by notified two_commands ≡ []) × (pending_of notified two_commands ≡ true ∷ true ∷ [])
unfolding on_facts
notes_no_more = (refl, refl)

-- no mark outlives the batch
marks_are_cleared : pending_of notified notified_run ≡ []
unfolding on_facts
marks_are_cleared = refl

-- ---- a third task fails: what is pending runs only where handlers are forced, and the host is out all the same
abbrev pub failing : Bool → PlanOf
failing force = with_nodes force (Task (Task (Task last))) 2 (shown ++ notifies (0 ∷ 1 ∷ []) ∷ notifies (0 ∷ 1 ∷ []) ∷ refuses ∷ shown ++ shown)

abbrev pub failing_run : List Event
failing_run = two_commands ++ Turn ∷ start ∷ Turn ∷ Close ∷ []

fails_unforced : IsLegalUnder (failing false) 5 5 failing_run × (counts_of (failing false) failing_run ≡ record none_counted { ok = 2; changed = 2; failed = 1 } ∷ [])
    × (pending_of (failing false) failing_run ≡ [])
unfolding on_facts
fails_unforced = (refl, refl, refl)

abbrev pub forced_run : List Event
forced_run = two_commands ++ Turn ∷ start ∷ Turn ∷ start ∷ Turn ∷ start ∷ Turn ∷ Close ∷ []

fails_forced : IsLegalUnder (failing true) 5 5 forced_run × (counts_of (failing true) forced_run ≡ record none_counted { ok = 4; changed = 2; failed = 1 } ∷ [])
unfolding on_facts
fails_forced = (refl, refl)

-- they run at the last Flush
forced_at : starts_at (failing true) forced_run ≡ Some 2 ∷ Some 3 ∷ Some 4 ∷ Some 7 ∷ Some 8 ∷ []
unfolding on_facts
forced_at = refl

out_at_once : statuses (failing true) (two_commands ++ Turn ∷ start ∷ []) ≡ status.Failed ∷ []
unfolding on_facts
out_at_once = refl

-- ---- a handler that fails where a block flushes: the block's rescue clears that
abbrev pub flushes : PlanOf
flushes =
    with_nodes false (Task (Block (Flush Nothing) (Task Nothing) Nothing last)) 1
    (flush (refuses ∷ []) ++ notifies (0 ∷ []) ∷ flush (caught refuses ∷ []) ++ says ∷ flush (refuses ∷ []) ++ flush (refuses ∷ []))

abbrev pub flushes_run : List Event
flushes_run = first_command ++ Turn ∷ start ∷ Turn ∷ start ∷ Turn ∷ Close ∷ []

flush_is_rescued : IsLegalUnder flushes 5 5 flushes_run × (counts_of flushes flushes_run ≡ record none_counted { ok = 2; changed = 1; rescued = 1 } ∷ [])
    × (statuses flushes flushes_run ≡ status.Active ∷ [])
unfolding on_facts
flush_is_rescued = (refl, refl, refl)

-- ---- a handler that notifies itself is notified again, and runs at the next Flush
abbrev pub itself : PlanOf
itself =
    with_nodes false (Task last) 1
    (flush (notifies (0 ∷ []) ∷ []) ++ notifies (0 ∷ []) ∷ flush (notifies (0 ∷ []) ∷ []) ++ flush (notifies (0 ∷ []) ∷ []))

abbrev pub ran_once : List Event
ran_once = first_command ++ Turn ∷ command 1

notes_itself : noted_by itself ran_once ≡ 0 ∷ []
unfolding on_facts
notes_itself = refl

abbrev pub itself_run : List Event
itself_run = ran_once ++ Turn ∷ command 2 ++ Turn ∷ Close ∷ []

runs_itself : IsLegalUnder itself 5 5 itself_run × (counts_of itself itself_run ≡ record none_counted { ok = 3; changed = 3 } ∷ [])
unfolding on_facts
runs_itself = (refl, refl)

-- ---- a handler notifies one behind it, which runs in the same Flush, and one before it, which runs at the next
abbrev pub between : List PlaceOf
between = flush (says ∷ notifies (0 ∷ 2 ∷ []) ∷ says ∷ [])

abbrev pub passes_on : PlanOf
passes_on = with_nodes false (Task last) 3 (between ++ notifies (1 ∷ []) ∷ between ++ between)

abbrev pub passes_on_run : List Event
passes_on_run = first_command ++ Turn ∷ command 1 ++ Turn ∷ start ∷ Turn ∷ start ∷ Turn ∷ Close ∷ []

passed_on_at : IsLegalUnder passes_on 5 5 passes_on_run × (starts_at passes_on passes_on_run ≡ Some 3 ∷ Some 5 ∷ Some 6 ∷ Some 7 ∷ [])
unfolding on_facts
passed_on_at = (refl, refl)

-- ---- a failure notifies nobody, also where it is ignored
abbrev pub ignoring : PlanOf
ignoring = with_nodes false (Task last) 2 (shown ++ record (notifies (0 ∷ 1 ∷ [])) { ignore_errors = true } ∷ shown ++ shown)

abbrev pub ignored_run : List Event
ignored_run = Open ∷ command_to 0 (Ran (pos 1) [] []) ++ Turn ∷ Close ∷ []

ignored_is_silent : IsLegalUnder ignoring 5 5 ignored_run × (counts_of ignoring ignored_run ≡ record none_counted { ok = 1; changed = 1; ignored = 1 } ∷ [])
    × (noted_by ignoring (Open ∷ command_to 0 (Ran (pos 1) [] [])) ≡ [])
unfolding on_facts
ignored_is_silent = (refl, refl, refl)
