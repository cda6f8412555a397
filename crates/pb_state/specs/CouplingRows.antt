-- Worked runs: tasks that couple the hosts of a batch.
use Rattle.std.specs.Prelude.{◌≡◌, ℕ, pos, Bool, true, false, List, [], ◌∷◌, ◌++◌, map, codes, Option, Some, None, option_map, refl}
use Rattle.std.specs.Option.{option_map_or}
use Rattle.pb_value.specs.Datum.{Datum, int, text}
use Rattle.pb_batches.specs.declared.serial.Entry.TheVariants.{Number}
use Rattle.pb_expr_syntax.specs.Tree as tree
use Rattle.pb_expr_syntax.specs.declared.tree.Op.TheVariants.{Equal}
use Rattle.pb_outcome.specs.Decided.{shown_result}
use Rattle.pb_outcome.specs.declared.outcome.Form.{Form}
use Rattle.pb_outcome.specs.declared.outcome.Form.TheVariants.{Ran, Unreachable as NoAnswer}
use Rattle.pb_places.specs.Place.{PlaceOf, bare_place}
use Rattle.pb_plan.specs.Plan.{PlayOf, PlanOf, bare_play, bare_plan, bare_tree}
use Rattle.pb_play.specs.declared.modules.Module.TheVariants.{DebugVar, SetFact}
use Rattle.pb_tree.specs.Tree.{Nodes, Nothing, Task, Block, Flush}
use Rattle.pb_tree.specs.declared.tree.Status.{Status}
use Rattle.pb_tree.specs.declared.tree.Status.TheVariants as status
use Rattle.pb_state.specs.BatchRows.{start, send, went, threes, all_three, led_to, may, is_second}
use Rattle.pb_state.specs.BlockRows.{says, runs, refuses, ends, caught, last}
use Rattle.pb_state.specs.HandlerRows.{flush}
use Rattle.pb_host.specs.declared.step_result.StepResult.{StepResult}
use Rattle.pb_host.specs.declared.step_result.TaskDone.{TaskDone}
use Rattle.pb_state.specs.declared.event.Event.{Event}
use Rattle.pb_state.specs.declared.event.Event.TheVariants.{Open, Report as Reported, Turn, Close}
use Rattle.pb_host.specs.declared.host.Counts.{Counts}
use Rattle.pb_host.specs.FactRows.{on_facts}
use Rattle.pb_state.specs.Machine.{first_state, pending_at}
use Rattle.pb_state.specs.Once.{StartOf, starts_from}
use Rattle.pb_state.specs.Run.{IsLegal}
use Rattle.pb_host.specs.Host.{HostOf, none_counted}

-- a job comes to this
abbrev comes : ℕ → ℕ → Form → Event
comes h ticket outcome = Reported (record { ticket = record { 0 = ticket }; host = record { 0 = h }; item = 0; attempt = 1; outcome = outcome })

abbrev badly : Form
badly = Ran (pos 1) [] []

abbrev failed : ℕ → ℕ → Event
failed h ticket = comes h ticket badly

abbrev counts_of : PlanOf → List Event → List Counts
counts_of plan events = map (λ (row : HostOf). row.counts) (led_to plan events).rows

abbrev statuses_of : PlanOf → List Event → List Status
statuses_of plan events = map (λ (row : HostOf). row.status) (led_to plan events).rows

-- the result of the task that the last event ended
abbrev result_after : PlanOf → List Event → Option Datum
result_after plan events = option_map_or (λ (d : StepResult). option_map (λ (done : TaskDone). done.result) d.done) (led_to plan events).step_result None

-- a play of two hosts, with these nodes behind its first Flush
abbrev twos : List PlayOf → PlanOf
twos plays = bare_plan (codes "a" ∷ codes "b" ∷ []) plays

abbrev both : Nodes → List PlaceOf → PlayOf
both nodes places = bare_play (codes "all") (record { nodes = Flush nodes; handlers = 0; force_handlers = false }) places (true ∷ true ∷ [])

abbrev fatal : PlaceOf → PlaceOf
fatal place = record place { any_errors_fatal = true }

abbrev once : PlaceOf → PlaceOf
once place = record place { run_once = true }

-- what hosts count that did one command, or failed at it
abbrev one_done : Counts
one_done = record none_counted { ok = 1; changed = 1 }

abbrev one_failed : Counts
one_failed = record none_counted { failed = 1 }

-- a command that two hosts run, where the first one's comes to this
abbrev both_run : Form → List Event
both_run outcome = Open ∷ start 0 ∷ send 0 0 ∷ start 1 ∷ send 1 1 ∷ comes 0 0 outcome ∷ went 1 1 ∷ Turn ∷ []

-- ---- how many may fail
-- four hosts, of which two fail
abbrev limited : ℕ → PlanOf
limited percent =
    bare_plan (codes "a" ∷ codes "b" ∷ codes "c" ∷ codes "d" ∷ [])
    (record (bare_play (codes "all") (bare_tree 0 2 0) (runs ∷ says ∷ []) (true ∷ true ∷ true ∷ true ∷ [])) { max_fail_percentage = percent } ∷ [])

abbrev two_fail : List Event
two_fail =
    Open ∷ start 0 ∷ send 0 0 ∷ start 1 ∷ send 1 1 ∷ start 2 ∷ send 2 2 ∷ start 3 ∷ send 3 3 ∷ failed 0 0 ∷ went 1 1 ∷ failed 2 2 ∷ went 3 3 ∷ Turn ∷ []

abbrev goes_on_run : List Event
goes_on_run = two_fail ++ start 1 ∷ start 3 ∷ Turn ∷ Close ∷ []

abbrev two_done : Counts
two_done = record none_counted { ok = 2; changed = 1 }

half_may_fail : IsLegal (limited 50) 256 goes_on_run × (counts_of (limited 50) goes_on_run ≡ one_failed ∷ two_done ∷ one_failed ∷ two_done ∷ [])
unfolding on_facts
half_may_fail = (refl, refl)

less_than_half : IsLegal (limited 49) 256 (two_fail ++ Close ∷ []) × (counts_of (limited 49) two_fail ≡ one_failed ∷ one_done ∷ one_failed ∷ one_done ∷ [])
    × (statuses_of (limited 49) two_fail ≡ status.Failed ∷ status.Halted ∷ status.Failed ∷ status.Halted ∷ [])
unfolding on_facts
less_than_half = (refl, refl, refl)

-- ---- tasks that run once
-- three hosts in batches of two: a command runs once in each, and what it registers goes to all of the batch
abbrev registers : PlaceOf
registers = record runs { task = record runs.task { register = Some (codes "r") } }

abbrev shows : PlaceOf
shows = bare_place (codes "debug") (DebugVar (codes "r.stdout") (tree.Member (tree.Name (codes "r")) (codes "stdout")))

abbrev for_all : PlanOf
for_all = threes 5 (record (bare_play (codes "all") (bare_tree 0 2 0) (once registers ∷ shows ∷ []) all_three) { serial = Number (pos 2) ∷ [] } ∷ [])

abbrev writes : List ℕ → Form
writes out = Ran (pos 0) out []

abbrev first_batch : List Event
first_batch = Open ∷ start 0 ∷ send 0 0 ∷ comes 0 0 (writes (codes "A")) ∷ Turn ∷ start 0 ∷ start 1 ∷ []

abbrev second_batch : List Event
second_batch = first_batch ++ Turn ∷ Close ∷ Open ∷ start 2 ∷ send 2 1 ∷ comes 2 1 (writes (codes "C")) ∷ Turn ∷ start 2 ∷ []

runs_once : IsLegal for_all 256 (second_batch ++ Turn ∷ Close ∷ []) × (counts_of for_all second_batch ≡ two_done ∷ record none_counted { ok = 1 } ∷ two_done ∷ [])
unfolding on_facts
runs_once = (refl, refl)

second_sees : result_after for_all first_batch ≡ Some (shown_result (codes "r.stdout") (text (codes "A"))).result
unfolding on_facts
second_sees = refl

third_sees : result_after for_all second_batch ≡ Some (shown_result (codes "r.stdout") (text (codes "C"))).result
unfolding on_facts
third_sees = refl

-- only the first host may start it, and the next one where that is gone
once_is_first : (may for_all (Open ∷ []) (start 1) ≡ false) × (may for_all (Open ∷ start 0 ∷ []) (start 1) ≡ false) × (may for_all (Open ∷ start 0 ∷ send 0 0 ∷ went 0 0 ∷ []) (start 1) ≡ false)
    × (may for_all (Open ∷ start 0 ∷ send 0 0 ∷ comes 0 0 (NoAnswer []) ∷ []) (start 1) ≡ true)
    × (may for_all (Open ∷ start 0 ∷ send 0 0 ∷ comes 0 0 (NoAnswer []) ∷ []) Turn ≡ false)
unfolding on_facts
once_is_first = (refl, refl, refl, refl, refl)

-- the copy of a `meta: end_host` ends the play for all
abbrev all_end : PlanOf
all_end = twos (both (Task (Task last)) (once ends ∷ says ∷ []) ∷ [])

abbrev all_end_run : List Event
all_end_run = Open ∷ start 0 ∷ Turn ∷ Close ∷ []

ends_for_all : IsLegal all_end 256 all_end_run × (counts_of all_end all_end_run ≡ none_counted ∷ none_counted ∷ []) × (statuses_of all_end all_end_run ≡ status.Active ∷ status.Active ∷ [])
unfolding on_facts
ends_for_all = (refl, refl, refl)

-- the copy for a handler's place takes its mark
abbrev with_handlers : Bool → ℕ → List PlaceOf → PlaceOf → PlanOf
with_handlers force count handlers place =
    twos
    (bare_play (codes "all") (record { nodes = Flush (Task last); handlers = count; force_handlers = force }) (flush handlers ++ place ∷ flush handlers ++ flush handlers) (true ∷ true ∷ []) ∷ [])

abbrev handler_once : PlanOf
handler_once = with_handlers false 1 (once says ∷ []) (record runs { notifies = 0 ∷ [] })

abbrev handler_run : List Event
handler_run = both_run (writes []) ++ start 0 ∷ Turn ∷ []

handler_copied : IsLegal handler_once 256 (handler_run ++ Close ∷ []) × (pending_at (led_to handler_once handler_run) 1 ≡ false ∷ [])
    × (counts_of handler_once handler_run ≡ two_done ∷ one_done ∷ [])
unfolding on_facts
handler_copied = (refl, refl, refl)

-- ---- failures that are fatal for all
-- whatever the forks, the hosts finish the task before they are halted
abbrev fatal_for_all : ℕ → PlanOf
fatal_for_all forks = threes forks (bare_play (codes "all") (bare_tree 0 2 0) (fatal runs ∷ says ∷ []) all_three ∷ [])

abbrev fatal_counts : List Counts
fatal_counts = one_failed ∷ one_done ∷ one_done ∷ []

abbrev one_by_one : List Event
one_by_one = Open ∷ start 0 ∷ send 0 0 ∷ failed 0 0 ∷ start 1 ∷ send 1 1 ∷ went 1 1 ∷ start 2 ∷ send 2 2 ∷ went 2 2 ∷ Turn ∷ Close ∷ []

abbrev before_turn : List Event
before_turn = Open ∷ start 0 ∷ send 0 0 ∷ start 1 ∷ send 1 1 ∷ start 2 ∷ send 2 2 ∷ failed 0 0 ∷ went 1 1 ∷ went 2 2 ∷ []

abbrev all_at_once : List Event
all_at_once = before_turn ++ Turn ∷ Close ∷ []

fatal_alike : IsLegal (fatal_for_all 1) 256 one_by_one × (counts_of (fatal_for_all 1) one_by_one ≡ fatal_counts) × IsLegal (fatal_for_all 256) 256 all_at_once
    × (counts_of (fatal_for_all 256) all_at_once ≡ fatal_counts)
unfolding on_facts
fatal_alike = (refl, refl, refl, refl)

halted_at_turn : (statuses_of (fatal_for_all 256) before_turn ≡ status.Failed ∷ status.Active ∷ status.Active ∷ []) × (statuses_of (fatal_for_all 256) all_at_once ≡ status.Failed ∷ status.Halted ∷ status.Halted ∷ [])
unfolding on_facts
halted_at_turn = (refl, refl)

-- a block with a fatal body: its always part runs on both hosts
abbrev fatal_block : PlanOf
fatal_block = twos (both (Block (Task (Task Nothing)) Nothing (Task Nothing) (Task last)) (fatal runs ∷ fatal says ∷ fatal says ∷ says ∷ []) ∷ [])

abbrev block_run : List Event
block_run = both_run badly ++ start 0 ∷ start 1 ∷ Turn ∷ Close ∷ []

block_halts : IsLegal fatal_block 256 block_run × (counts_of fatal_block block_run ≡ record none_counted { ok = 1; failed = 1 } ∷ two_done ∷ [])
    × (statuses_of fatal_block block_run ≡ status.Failed ∷ status.Halted ∷ [])
unfolding on_facts
block_halts = (refl, refl, refl)

-- forced handlers run on both, where a handler's failure is fatal
abbrev fatal_handler : PlanOf
fatal_handler = with_handlers true 2 (fatal runs ∷ says ∷ []) (record runs { notifies = 0 ∷ 1 ∷ [] })

abbrev fatal_handler_run : List Event
fatal_handler_run = both_run (writes []) ++ start 0 ∷ send 0 2 ∷ start 1 ∷ send 1 3 ∷ failed 0 2 ∷ went 1 3 ∷ Turn ∷ start 0 ∷ start 1 ∷ Turn ∷ Close ∷ []

handlers_forced : IsLegal fatal_handler 256 fatal_handler_run
    × (counts_of fatal_handler fatal_handler_run ≡ record none_counted { ok = 2; changed = 1; failed = 1 } ∷ record none_counted { ok = 3; changed = 2 } ∷ [])
unfolding on_facts
handlers_forced = (refl, refl)

-- the first of them at the Flush behind the task, and the second, for the failure of the first, at the one behind that
abbrev starts_there : StartOf → ℕ × Option ℕ
starts_there x = (x.host.0, x.place)

handlers_at : map starts_there (starts_from fatal_handler (first_state fatal_handler 5 256) fatal_handler_run)
    ≡ (0, Some 2) ∷ (1, Some 2) ∷ (0, Some 3) ∷ (1, Some 3) ∷ (0, Some 6) ∷ (1, Some 6) ∷ []
unfolding on_facts
handlers_at = refl

-- a host that is gone is fatal also where a failure is caught; and where hosts are halted, no further batch opens
abbrev drops : PlanOf
drops =
    threes 5
    (record (bare_play (codes "all") (record { nodes = Flush (Block (Task Nothing) (Task Nothing) Nothing (Task last)); handlers = 0; force_handlers = false })
    (caught (fatal runs) ∷ says ∷ says ∷ []) all_three) { serial = Number (pos 2) ∷ [] } ∷ [])

gone_is_fatal : IsLegal drops 256 (both_run (NoAnswer []) ++ Close ∷ []) × (statuses_of drops (both_run (NoAnswer [])) ≡ status.Gone ∷ status.Halted ∷ status.Active ∷ [])
    × (may drops (both_run (NoAnswer []) ++ Close ∷ []) Open ≡ false)
unfolding on_facts
gone_is_fatal = (refl, refl, refl)

-- a failure that is caught isn't fatal: the batch goes on, and the next one opens
caught_isnt : IsLegal drops 256 (both_run badly ++ start 0 ∷ Turn ∷ start 0 ∷ start 1 ∷ Turn ∷ Close ∷ Open ∷ start 2 ∷ [])
    × (statuses_of drops (both_run badly) ≡ status.Active ∷ status.Active ∷ status.Active ∷ [])
unfolding on_facts
caught_isnt = (refl, refl)

-- so it is where a host of the batch is still active: the play's later batches are dropped, and the next play goes on with those that are left
abbrev drops_rest : PlanOf
drops_rest =
    threes 5
    (record (bare_play (codes "all") (bare_tree 0 2 0) (record ends { conditions = is_second ∷ [] } ∷ fatal refuses ∷ []) all_three) { serial = Number (pos 2) ∷ [] }
    ∷ bare_play (codes "all") (bare_tree 0 1 0) (says ∷ []) all_three ∷ [])

abbrev dropped_run : List Event
dropped_run = Open ∷ start 0 ∷ start 1 ∷ Turn ∷ start 0 ∷ Turn ∷ Close ∷ []

drops_later : IsLegal drops_rest 256 (dropped_run ++ Open ∷ start 1 ∷ start 2 ∷ Turn ∷ Close ∷ []) × ((led_to drops_rest (dropped_run ++ Open ∷ [])).play ≡ 1)
    × (statuses_of drops_rest dropped_run ≡ status.Failed ∷ status.Active ∷ status.Active ∷ [])
unfolding on_facts
drops_later = (refl, refl, refl)

-- a host to which a failure is copied is broken by it, so that it isn't halted
abbrev copies_break : PlanOf
copies_break = twos (both (Block (Task Nothing) Nothing (Task (Task Nothing)) last) (once (fatal refuses) ∷ says ∷ says ∷ []) ∷ [])

abbrev copies_run : List Event
copies_run = Open ∷ start 0 ∷ Turn ∷ start 0 ∷ start 1 ∷ Turn ∷ start 0 ∷ start 1 ∷ Turn ∷ Close ∷ []

copies_broken : IsLegal copies_break 256 copies_run × (statuses_of copies_break copies_run ≡ status.Failed ∷ status.Failed ∷ [])
    × (counts_of copies_break copies_run ≡ record none_counted { ok = 2; failed = 1 } ∷ record none_counted { ok = 2 } ∷ [])
unfolding on_facts
copies_broken = (refl, refl, refl)

-- hosts are halted anew at each turn while too many are broken: a second time cuts no always part short
abbrev limited_block : PlanOf
limited_block = twos (record (both (Block (Task (Task Nothing)) Nothing (Task (Task Nothing)) last) (runs ∷ says ∷ says ∷ says ∷ [])) { max_fail_percentage = 0 } ∷ [])

abbrev halted_run : List Event
halted_run = both_run badly ++ start 0 ∷ start 1 ∷ Turn ∷ start 0 ∷ start 1 ∷ Turn ∷ Close ∷ []

halted_anew : IsLegal limited_block 256 halted_run × (counts_of limited_block halted_run ≡ record none_counted { ok = 2; failed = 1 } ∷ record none_counted { ok = 3; changed = 1 } ∷ [])
    × (statuses_of limited_block halted_run ≡ status.Failed ∷ status.Halted ∷ [])
unfolding on_facts
halted_anew = (refl, refl, refl)

-- a host that is halted within an always part loses the rest of it
abbrev fatal_always : PlanOf
fatal_always = twos (both (Block Nothing Nothing (Task (Task Nothing)) last) (fatal runs ∷ says ∷ []) ∷ [])

halted_within : IsLegal fatal_always 256 (both_run badly ++ Close ∷ []) × (counts_of fatal_always (both_run badly) ≡ one_failed ∷ one_done ∷ [])
    × (statuses_of fatal_always (both_run badly) ≡ status.Failed ∷ status.Halted ∷ [])
unfolding on_facts
halted_within = (refl, refl, refl)

-- ---- facts that are delegated
-- of two hosts only the first runs a `set_fact`, whose fact goes to the second: it is defined there from then on, and not on the host that ran the task
abbrev is_first : tree.Tree
is_first = tree.Binary Equal (tree.Name (codes "inventory_hostname")) (tree.Text (codes "a"))

abbrev sets_for_second : PlaceOf
sets_for_second =
    record (bare_place (codes "set_fact") (SetFact ((codes "x", int (pos 1)) ∷ []))) {
      conditions = is_first ∷ [];
      delegate_to = Some (codes "b");
      delegate_facts = true;
    }

abbrev shows_x : PlaceOf
shows_x = bare_place (codes "debug") (DebugVar (codes "x") (tree.Name (codes "x")))

abbrev delegates : PlanOf
delegates = twos (both (Task (Task last)) (sets_for_second ∷ shows_x ∷ []) ∷ [])

abbrev first_shows : List Event
first_shows = Open ∷ start 0 ∷ start 1 ∷ Turn ∷ start 0 ∷ []

abbrev both_show : List Event
both_show = first_shows ++ start 1 ∷ []

abbrev delegated_run : List Event
delegated_run = both_show ++ Turn ∷ Close ∷ []

abbrev x_is : Datum → Option Datum
x_is v = Some (shown_result (codes "x") v).result

delegates_facts : IsLegal delegates 256 delegated_run
    × (counts_of delegates delegated_run ≡ record none_counted { ok = 2 } ∷ record none_counted { ok = 1; skipped = 1 } ∷ [])
    × (result_after delegates first_shows ≡ x_is (text (codes "VARIABLE IS NOT DEFINED!"))) × (result_after delegates both_show ≡ x_is (int (pos 1)))
unfolding on_facts
delegates_facts = (refl, refl, refl, refl)
