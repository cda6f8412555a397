-- Worked lines of two trails, each with the number of its event.
use Rattle.std.specs.Prelude.{◌≡◌, [], ◌∷◌, codes, refl}
use Rattle.pb_state.specs.declared.event.Event.TheVariants.{Open, Turn}
use Rattle.pb_events.specs.Rows.{on_literals, two_hosts, first}
use Rattle.pb_driver.specs.Written.{lines_along, certain_lines}

-- a batch opens, and a host runs its task
two_events : lines_along two_hosts 256 (Open ∷ first ∷ [])
    ≡ (0, codes "{\"batch\":0,\"event\":\"playbook_on_play_start\",\"hosts\":[\"a\",\"b\"],\"name\":\"all\",\"play\":0}\n")
    ∷ (1, codes "{\"event\":\"playbook_on_task_start\",\"name\":\"hi\",\"place\":\"1\",\"play\":0}\n")
    ∷ (1, codes "{\"event\":\"runner_on_start\",\"host\":\"a\",\"place\":\"1\",\"play\":0}\n")
    ∷ (1, codes "{\"event\":\"runner_on_ok\",\"host\":\"a\",\"place\":\"1\",\"play\":0,\"result\":{\"changed\":false,\"failed\":false,\"msg\":\"hello\"}}\n")
    ∷ []
unfolding on_literals
two_events = refl

-- an event that has no lines leaves none between those of others
silent_turn : lines_along two_hosts 256 (Open ∷ Turn ∷ [])
    ≡ (0, codes "{\"batch\":0,\"event\":\"playbook_on_play_start\",\"hosts\":[\"a\",\"b\"],\"name\":\"all\",\"play\":0}\n") ∷ []
unfolding on_literals
silent_turn = refl

-- where a run broke off at its second event, the lines of the first are there for certain
broken_off : certain_lines two_hosts 256 (Open ∷ first ∷ [])
    ≡ codes "{\"event\":\"playbook_on_start\",\"plays\":1}\n"
    ∷ codes "{\"batch\":0,\"event\":\"playbook_on_play_start\",\"hosts\":[\"a\",\"b\"],\"name\":\"all\",\"play\":0}\n" ∷ []
unfolding on_literals
broken_off = refl
