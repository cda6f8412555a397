-- Worked runs: two hosts, and a play with one task.
use Rattle.std.specs.Prelude.{◌≡◌, ⊤, ℕ, pos, Bool, true, false, List, [], ◌∷◌, ◌++◌, codes, Some, None, refl}
use Rattle.std.specs.Fmt.{digits}
use Rattle.serde_json.proofs.OnLiterals.{serde_json_on_literals}
use Rattle.pb_value.specs.Datum.{text, null}
use Rattle.pb_outcome.specs.declared.gather.TaskResult.{TaskResult}
use Rattle.pb_outcome.specs.declared.outcome.Form.{Form}
use Rattle.pb_outcome.specs.declared.outcome.Form.TheVariants.{Ran, Unreachable}
use Rattle.pb_play.specs.declared.modules.Module.{Module}
use Rattle.pb_play.specs.declared.modules.Module.TheVariants.{Debug, Fail, Shell}
use Rattle.pb_state.specs.FromTaskVars.{on_tasks}
use Rattle.pb_state.specs.declared.event.Event.{Event}
use Rattle.pb_state.specs.declared.event.Event.TheVariants.{Open, Start, Send, Report as Reported, Turn, Close, Stop, Forks}
use Rattle.pb_play.specs.declared.task.Task.{Task}
use Rattle.pb_places.specs.Place.{bare_place, bare_task, place_of}
use Rattle.pb_plan.specs.Plan.{PlayOf, PlanOf, bare_play, bare_plan, bare_tree}
use Rattle.pb_state.specs.Run.{state_after_under}
use Rattle.pb_state.specs.State.{State}
use Rattle.pb_events.specs.Line.{line}
use Rattle.pb_events.specs.Lines.{start_line, lines_of, result_line}
use Rattle.pb_events.specs.Whole.{lines_in}

-- what computes a row
unfoldable pub on_literals : ⊤
unfolding line digits serde_json_on_literals on_tasks
on_literals = tt

abbrev one_task : Module → PlanOf
one_task called =
    bare_plan (codes "a" ∷ codes "b" ∷ [])
    (bare_play (codes "all") (bare_tree 0 1 0) (bare_place (codes "hi") called ∷ []) (true ∷ true ∷ []) ∷ [])

abbrev pub two_hosts : PlanOf
two_hosts = one_task (Debug (text (codes "hello")))

abbrev after_of : PlanOf → List Event → State
after_of plan events = state_after_under plan 5 5 events

abbrev after_all : List Event → State
after_all events = after_of two_hosts events

abbrev pub first : Event
first = Start (record { 0 = 0 })

abbrev pub second : Event
second = Start (record { 0 = 1 })

begins : start_line 1 ≡ codes "{\"event\":\"playbook_on_start\",\"plays\":1}\n"
unfolding on_literals
begins = refl

opens : lines_of two_hosts (after_all (Open ∷ [])) Open ≡ codes "{\"batch\":0,\"event\":\"playbook_on_play_start\",\"hosts\":[\"a\",\"b\"],\"name\":\"all\",\"play\":0}\n"
unfolding on_literals
opens = refl

first_starts : lines_of two_hosts (after_all (Open ∷ first ∷ [])) first
    ≡ codes "{\"event\":\"playbook_on_task_start\",\"name\":\"hi\",\"place\":\"1\",\"play\":0}\n"
    ++ codes "{\"event\":\"runner_on_start\",\"host\":\"a\",\"place\":\"1\",\"play\":0}\n"
    ++ codes "{\"event\":\"runner_on_ok\",\"host\":\"a\",\"place\":\"1\",\"play\":0,\"result\":{\"changed\":false,\"failed\":false,\"msg\":\"hello\"}}\n"
unfolding on_literals
first_starts = refl

-- the task's line isn't written again
second_starts : lines_of two_hosts (after_all (Open ∷ first ∷ second ∷ [])) second
    ≡ codes "{\"event\":\"runner_on_start\",\"host\":\"b\",\"place\":\"1\",\"play\":0}\n"
    ++ codes "{\"event\":\"runner_on_ok\",\"host\":\"b\",\"place\":\"1\",\"play\":0,\"result\":{\"changed\":false,\"failed\":false,\"msg\":\"hello\"}}\n"
unfolding on_literals
second_starts = refl

turns : lines_of two_hosts (after_all (Open ∷ first ∷ second ∷ Turn ∷ [])) Turn ≡ []
turns = refl

closes : lines_of two_hosts (after_all (Open ∷ first ∷ second ∷ Turn ∷ Close ∷ [])) Close ≡ []
closes = refl

-- a task that fails as it starts
abbrev failing : PlanOf
failing = one_task (Fail (text (codes "no")))

fails_at_once : lines_of failing (after_of failing (Open ∷ first ∷ [])) first
    ≡ codes "{\"event\":\"playbook_on_task_start\",\"name\":\"hi\",\"place\":\"1\",\"play\":0}\n"
    ++ codes "{\"event\":\"runner_on_start\",\"host\":\"a\",\"place\":\"1\",\"play\":0}\n"
    ++ codes "{\"event\":\"runner_on_failed\",\"host\":\"a\",\"ignored\":false,\"place\":\"1\",\"play\":0,\"result\":{\"changed\":false,\"failed\":true,\"msg\":\"no\"}}\n"
unfolding on_literals
fails_at_once = refl

-- a task that waits for a job
abbrev commanded : PlanOf
commanded = one_task (Shell (codes "true"))

abbrev goes_out : Event
goes_out = Send (record { 0 = 0 }) 0 1 (record { 0 = 0 })

abbrev comes : Form → Event
comes outcome = Reported (record { ticket = record { 0 = 0 }; host = record { 0 = 0 }; item = 0; attempt = 1; outcome = outcome })

-- its start has no line of a result
starts_and_waits : lines_of commanded (after_of commanded (Open ∷ first ∷ [])) first
    ≡ codes "{\"event\":\"playbook_on_task_start\",\"name\":\"hi\",\"place\":\"1\",\"play\":0}\n"
    ++ codes "{\"event\":\"runner_on_start\",\"host\":\"a\",\"place\":\"1\",\"play\":0}\n"
unfolding on_literals
starts_and_waits = refl

sends_in_silence : lines_of commanded (after_of commanded (Open ∷ first ∷ goes_out ∷ [])) goes_out ≡ []
sends_in_silence = refl

-- the report has the line of its result alone
comes_well : lines_of commanded (after_of commanded (Open ∷ first ∷ goes_out ∷ comes (Ran (pos 0) (codes "x\n") []) ∷ [])) (comes (Ran (pos 0) (codes "x\n") []))
    ≡ codes "{\"event\":\"runner_on_ok\",\"host\":\"a\",\"place\":\"1\",\"play\":0,\"result\":{\"changed\":true,\"failed\":false,\"msg\":\"\",\"rc\":0,"
    ++ codes "\"stderr\":\"\",\"stderr_lines\":[],\"stdout\":\"x\",\"stdout_lines\":[\"x\"]}}\n"
unfolding on_literals
comes_well = refl

comes_failed : lines_of commanded (after_of commanded (Open ∷ first ∷ goes_out ∷ comes (Ran (pos 1) [] []) ∷ [])) (comes (Ran (pos 1) [] []))
    ≡ codes "{\"event\":\"runner_on_failed\",\"host\":\"a\",\"ignored\":false,\"place\":\"1\",\"play\":0,\"result\":{\"changed\":true,\"failed\":true,\"msg\":\"non-zero return code\",\"rc\":1,"
    ++ codes "\"stderr\":\"\",\"stderr_lines\":[],\"stdout\":\"\",\"stdout_lines\":[]}}\n"
unfolding on_literals
comes_failed = refl

comes_lost : lines_of commanded (after_of commanded (Open ∷ first ∷ goes_out ∷ comes (Unreachable (codes "no route")) ∷ [])) (comes (Unreachable (codes "no route")))
    ≡ codes "{\"event\":\"runner_on_unreachable\",\"host\":\"a\",\"place\":\"1\",\"play\":0,\"result\":{\"changed\":false,\"failed\":false,\"msg\":\"no route\",\"unreachable\":true}}\n"
unfolding on_literals
comes_lost = refl

-- a command that may be tried once more: of the first attempt there is a line, and the second ends the task
abbrev tries : Task
tries = record (bare_task (codes "hi") (Shell (codes "true"))) { retrying = Some (record { until = None; retries = 1; delay = 0 }) }

abbrev tried : PlanOf
tried = bare_plan (codes "a" ∷ codes "b" ∷ []) (bare_play (codes "all") (bare_tree 0 1 0) (place_of tries ∷ []) (true ∷ true ∷ []) ∷ [])

abbrev failed_once : List Event
failed_once = Open ∷ first ∷ goes_out ∷ comes (Ran (pos 1) [] []) ∷ []

abbrev ends_well : Event
ends_well = Reported (record { ticket = record { 0 = 1 }; host = record { 0 = 0 }; item = 0; attempt = 2; outcome = Ran (pos 0) [] [] })

comes_again : lines_of tried (after_of tried failed_once) (comes (Ran (pos 1) [] []))
    ≡ codes "{\"attempt\":1,\"event\":\"runner_retry\",\"host\":\"a\",\"place\":\"1\",\"play\":0,\"result\":{\"attempts\":1,\"changed\":true,\"failed\":true,"
    ++ codes "\"msg\":\"non-zero return code\",\"rc\":1,\"stderr\":\"\",\"stderr_lines\":[],\"stdout\":\"\",\"stdout_lines\":[]}}\n"
unfolding on_literals
comes_again = refl

ends_then : lines_of tried (after_of tried (failed_once ++ Send (record { 0 = 0 }) 0 2 (record { 0 = 1 }) ∷ ends_well ∷ [])) ends_well
    ≡ codes "{\"event\":\"runner_on_ok\",\"host\":\"a\",\"place\":\"1\",\"play\":0,\"result\":{\"attempts\":2,\"changed\":true,\"failed\":false,\"msg\":\"\",\"rc\":0,"
    ++ codes "\"stderr\":\"\",\"stderr_lines\":[],\"stdout\":\"\",\"stdout_lines\":[]}}\n"
unfolding on_literals
ends_then = refl

stops : lines_of commanded (after_of commanded (Open ∷ first ∷ Stop ∷ [])) Stop ≡ []
stops = refl

has_other_forks : lines_of commanded (after_of commanded (Open ∷ first ∷ Forks 2 ∷ [])) (Forks 2) ≡ []
has_other_forks = refl

-- three plays for two hosts: the first has both, the second none, and the third the second host
abbrev with_hosts : List ℕ → List Bool → PlayOf
with_hosts name hosts = bare_play name (bare_tree 0 1 0) (bare_place (codes "hi") (Debug (text (codes "hello"))) ∷ []) hosts

abbrev three_plays : PlanOf
three_plays =
    bare_plan (codes "a" ∷ codes "b" ∷ [])
    (with_hosts (codes "all") (true ∷ true ∷ []) ∷ with_hosts (codes "none") (false ∷ false ∷ []) ∷ with_hosts (codes "b") (false ∷ true ∷ []) ∷ [])

abbrev to_the_third : List Event
to_the_third = Open ∷ first ∷ second ∷ Turn ∷ Close ∷ Open ∷ []

-- the second play is passed over without a line, and the third's batch is its own host
opens_the_third : lines_of three_plays (after_of three_plays to_the_third) Open ≡ codes "{\"batch\":0,\"event\":\"playbook_on_play_start\",\"hosts\":[\"b\"],\"name\":\"b\",\"play\":2}\n"
unfolding on_literals
opens_the_third = refl

-- the lines of results that no module has yet
abbrev ends_as : TaskResult → List ℕ
ends_as task = result_line (codes "a") (codes "1") 0 (record { result = null; task = record { result = task; is_caught = false; meta = None }; notified = [] })

skipped_line : ends_as (record { unreachable = false; failed = false; skipped = true; changed = false; ignored = false })
    ≡ codes "{\"event\":\"runner_on_skipped\",\"host\":\"a\",\"place\":\"1\",\"play\":0,\"result\":null}\n"
unfolding on_literals
skipped_line = refl

ignored_line : ends_as (record { unreachable = false; failed = true; skipped = false; changed = true; ignored = true })
    ≡ codes "{\"event\":\"runner_on_failed\",\"host\":\"a\",\"ignored\":true,\"place\":\"1\",\"play\":0,\"result\":null}\n"
unfolding on_literals
ignored_line = refl

-- the lines of a text: one ends with its line feed, and what stands behind the last is one too
two_whole : lines_in (codes "a\n\n") ≡ codes "a\n" ∷ codes "\n" ∷ []
two_whole = refl

one_torn : lines_in (codes "a\nb") ≡ codes "a\n" ∷ codes "b" ∷ []
one_torn = refl

-- a text that isn't whole is joined with what comes behind it
joined : lines_in (codes "a" ++ codes "b\n") ≡ codes "ab\n" ∷ []
joined = refl

-- those of one event
lines_of_first : lines_in (lines_of two_hosts (after_all (Open ∷ first ∷ [])) first)
    ≡ codes "{\"event\":\"playbook_on_task_start\",\"name\":\"hi\",\"place\":\"1\",\"play\":0}\n"
    ∷ codes "{\"event\":\"runner_on_start\",\"host\":\"a\",\"place\":\"1\",\"play\":0}\n"
    ∷ codes "{\"event\":\"runner_on_ok\",\"host\":\"a\",\"place\":\"1\",\"play\":0,\"result\":{\"changed\":false,\"failed\":false,\"msg\":\"hello\"}}\n"
    ∷ []
unfolding on_literals
lines_of_first = refl

no_line_of_turn : lines_in (lines_of two_hosts (after_all (Open ∷ first ∷ second ∷ Turn ∷ [])) Turn) ≡ []
no_line_of_turn = refl
