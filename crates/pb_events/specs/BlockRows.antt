-- Worked lines of runs through blocks, and of tasks of `meta`.
use Rattle.std.specs.Prelude.{◌≡◌, ⊤, pos, [], ◌∷◌, ◌++◌, codes, refl}
use Rattle.std.specs.Fmt.{digits}
use Rattle.serde_json.proofs.OnLiterals.{serde_json_on_literals}
use Rattle.pb_outcome.specs.declared.outcome.Form.TheVariants.{Ran, Unreachable as NoAnswer}
use Rattle.pb_state.specs.BlockRows.{says, refuses, start, comes, after_of, rescued_by, body_ends, body_comes, always_fails, two_plays, unread_rescued, unread_alone}
use Rattle.pb_host.specs.FactRows.{on_facts}
use Rattle.pb_state.specs.declared.event.Event.TheVariants.{Open, Turn}
use Rattle.pb_events.specs.Line.{line}
use Rattle.pb_events.specs.Lines.{lines_of}

-- what computes a row
unfoldable on_literals : ⊤
unfolding line digits serde_json_on_literals on_facts
on_literals = tt

-- a place in a block is known by the parts that lead to it
rescue_starts : lines_of (rescued_by says) (after_of (rescued_by says) (body_comes (Ran (pos 1) [] []) (start ∷ []))) start
    ≡ codes "{\"event\":\"playbook_on_task_start\",\"name\":\"debug\",\"place\":\"1.1.0\",\"play\":0}\n"
    ++ codes "{\"event\":\"runner_on_start\",\"host\":\"a\",\"place\":\"1.1.0\",\"play\":0}\n"
    ++ codes "{\"event\":\"runner_on_ok\",\"host\":\"a\",\"place\":\"1.1.0\",\"play\":0,\"result\":{\"changed\":false,\"failed\":false,\"msg\":\"hi\"}}\n"
unfolding on_literals
rescue_starts = refl

-- the failure that a rescue clears has lines as each failure is
body_fails : lines_of (rescued_by says) (after_of (rescued_by says) (body_ends (Ran (pos 1) [] []))) (comes (Ran (pos 1) [] []))
    ≡ codes "{\"event\":\"runner_on_failed\",\"host\":\"a\",\"ignored\":false,\"place\":\"1.0.1\",\"play\":0,\"result\":{\"changed\":true,\"failed\":true,\"msg\":\"non-zero return code\",\"rc\":1,"
    ++ codes "\"stderr\":\"\",\"stderr_lines\":[],\"stdout\":\"\",\"stdout_lines\":[]}}\n"
unfolding on_literals
body_fails = refl

-- and so is that of a rescue
rescue_fails : lines_of (rescued_by refuses) (after_of (rescued_by refuses) (body_comes (Ran (pos 1) [] []) (start ∷ []))) start
    ≡ codes "{\"event\":\"playbook_on_task_start\",\"name\":\"fail\",\"place\":\"1.1.0\",\"play\":0}\n"
    ++ codes "{\"event\":\"runner_on_start\",\"host\":\"a\",\"place\":\"1.1.0\",\"play\":0}\n"
    ++ codes "{\"event\":\"runner_on_failed\",\"host\":\"a\",\"ignored\":false,\"place\":\"1.1.0\",\"play\":0,\"result\":{\"changed\":false,\"failed\":true,\"msg\":\"no\"}}\n"
unfolding on_literals
rescue_fails = refl

-- a host that can't be reached in a block has lines as one outside
body_lost : lines_of (rescued_by says) (after_of (rescued_by says) (body_ends (NoAnswer (codes "no route")))) (comes (NoAnswer (codes "no route")))
    ≡ codes "{\"event\":\"runner_on_unreachable\",\"host\":\"a\",\"place\":\"1.0.1\",\"play\":0,\"result\":{\"changed\":false,\"failed\":false,\"msg\":\"no route\",\"unreachable\":true}}\n"
unfolding on_literals
body_lost = refl

always_fails_there : lines_of always_fails (after_of always_fails (Open ∷ start ∷ Turn ∷ start ∷ [])) start
    ≡ codes "{\"event\":\"playbook_on_task_start\",\"name\":\"fail\",\"place\":\"1.2.0\",\"play\":0}\n"
    ++ codes "{\"event\":\"runner_on_start\",\"host\":\"a\",\"place\":\"1.2.0\",\"play\":0}\n"
    ++ codes "{\"event\":\"runner_on_failed\",\"host\":\"a\",\"ignored\":false,\"place\":\"1.2.0\",\"play\":0,\"result\":{\"changed\":false,\"failed\":true,\"msg\":\"no\"}}\n"
unfolding on_literals
always_fails_there = refl

-- a task of `meta` that ends the play says nothing
ends_in_silence : lines_of two_plays (after_of two_plays (Open ∷ start ∷ Turn ∷ start ∷ [])) start ≡ []
unfolding on_literals
ends_in_silence = refl

-- one whose condition can't be read has one line, caught or not
unread_line : lines_of unread_alone (after_of unread_alone (Open ∷ start ∷ [])) start
    ≡ codes "{\"event\":\"runner_on_failed\",\"host\":\"a\",\"ignored\":false,\"place\":\"1\",\"play\":0,\"result\":{\"changed\":false,\"failed\":true,\"msg\":\"'x' is undefined\"}}\n"
unfolding on_literals
unread_line = refl

caught_line : lines_of unread_rescued (after_of unread_rescued (Open ∷ start ∷ [])) start
    ≡ codes "{\"event\":\"runner_on_failed\",\"host\":\"a\",\"ignored\":false,\"place\":\"1.0.0\",\"play\":0,\"result\":{\"changed\":false,\"failed\":true,\"msg\":\"'x' is undefined\"}}\n"
unfolding on_literals
caught_line = refl
