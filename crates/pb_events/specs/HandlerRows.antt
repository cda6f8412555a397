-- Worked lines of runs with handlers.
use Rattle.std.specs.Prelude.{◌≡◌, ⊤, ℕ, pos, false, List, [], ◌∷◌, ◌++◌, codes, refl}
use Rattle.std.specs.Fmt.{digits}
use Rattle.serde_json.proofs.OnLiterals.{serde_json_on_literals}
use Rattle.pb_value.specs.Datum.{text}
use Rattle.pb_outcome.specs.declared.outcome.Form.{Form}
use Rattle.pb_outcome.specs.declared.outcome.Form.TheVariants.{Ran}
use Rattle.pb_places.specs.Place.{PlaceOf, bare_place}
use Rattle.pb_play.specs.declared.modules.Module.TheVariants.{Debug}
use Rattle.pb_plan.specs.Plan.{PlanOf}
use Rattle.pb_tree.specs.Tree.{Task}
use Rattle.pb_state.specs.BlockRows.{last, start, after_of}
use Rattle.pb_host.specs.FactRows.{on_facts}
use Rattle.pb_state.specs.HandlerRows.{flush, notifies, command_to, with_nodes, ignoring, itself, ran_once}
use Rattle.pb_state.specs.declared.event.Event.{Event}
use Rattle.pb_state.specs.declared.event.Event.TheVariants.{Open, Report as Reported, Turn}
use Rattle.pb_events.specs.Line.{line}
use Rattle.pb_events.specs.Lines.{lines_of}

-- what computes a row
unfoldable on_literals : ⊤
unfolding line digits serde_json_on_literals on_facts
on_literals = tt

-- two commands that notify two handlers
abbrev handlers : List PlaceOf
handlers = flush (bare_place (codes "h1") (Debug (text (codes "hi"))) ∷ bare_place (codes "h2") (Debug (text (codes "hi"))) ∷ [])

abbrev named : PlanOf
named = with_nodes false (Task (Task last)) 2 (handlers ++ notifies (0 ∷ 1 ∷ []) ∷ notifies (0 ∷ 1 ∷ []) ∷ handlers ++ handlers)

abbrev went_well : Form
went_well = Ran (pos 0) [] []

abbrev report : ℕ → Form → Event
report ticket outcome = Reported (record { ticket = record { 0 = ticket }; host = record { 0 = 0 }; item = 0; attempt = 1; outcome = outcome })

-- after the task's own end, in the order of definition
abbrev ends_well : List ℕ → List ℕ
ends_well place =
    codes "{\"event\":\"runner_on_ok\",\"host\":\"a\",\"place\":\"" ++ place
    ++ codes "\",\"play\":0,\"result\":{\"changed\":true,\"failed\":false,\"msg\":\"\",\"rc\":0,\"stderr\":\"\",\"stderr_lines\":[],\"stdout\":\"\",\"stdout_lines\":[]}}\n"

tells_both : lines_of named (after_of named (Open ∷ command_to 0 went_well)) (report 0 went_well)
    ≡ ends_well (codes "1") ++ codes "{\"event\":\"playbook_on_notify\",\"handler\":\"h1\",\"host\":\"a\",\"play\":0}\n"
    ++ codes "{\"event\":\"playbook_on_notify\",\"handler\":\"h2\",\"host\":\"a\",\"play\":0}\n"
unfolding on_literals
tells_both = refl

-- what is pending is notified once
abbrev two_commands : List Event
two_commands = Open ∷ command_to 0 went_well ++ Turn ∷ command_to 1 went_well

tells_none : lines_of named (after_of named two_commands) (report 1 went_well) ≡ ends_well (codes "2")
unfolding on_literals
tells_none = refl

-- a handler's start has a name of its own
handler_starts : lines_of named (after_of named (two_commands ++ Turn ∷ start ∷ [])) start
    ≡ codes "{\"event\":\"playbook_on_handler_task_start\",\"name\":\"h1\",\"place\":\"3.0\",\"play\":0}\n"
    ++ codes "{\"event\":\"runner_on_start\",\"host\":\"a\",\"place\":\"3.0\",\"play\":0}\n"
    ++ codes "{\"event\":\"runner_on_ok\",\"host\":\"a\",\"place\":\"3.0\",\"play\":0,\"result\":{\"changed\":false,\"failed\":false,\"msg\":\"hi\"}}\n"
unfolding on_literals
handler_starts = refl

-- one that notifies itself is notified again
tells_itself : lines_of itself (after_of itself ran_once) (report 1 went_well)
    ≡ ends_well (codes "2.0") ++ codes "{\"event\":\"playbook_on_notify\",\"handler\":\"shell\",\"host\":\"a\",\"play\":0}\n"
unfolding on_literals
tells_itself = refl

-- a failure that is ignored tells of nobody
ignored_line : lines_of ignoring (after_of ignoring (Open ∷ command_to 0 (Ran (pos 1) [] []))) (report 0 (Ran (pos 1) [] []))
    ≡ codes "{\"event\":\"runner_on_failed\",\"host\":\"a\",\"ignored\":true,\"place\":\"1\",\"play\":0,\"result\":{\"changed\":true,\"failed\":true,\"msg\":\"non-zero return code\",\"rc\":1,"
    ++ codes "\"stderr\":\"\",\"stderr_lines\":[],\"stdout\":\"\",\"stdout_lines\":[]}}\n"
unfolding on_literals
ignored_line = refl
