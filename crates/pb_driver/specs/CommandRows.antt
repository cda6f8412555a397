-- Worked runs that are given commands: two hosts and a play of one command, of which one host may run at once.
use Rattle.std.specs.Prelude.{◌≡◌, ℕ, pos, true, List, [], ◌∷◌, ◌++◌, codes, refl}
use Rattle.pb_outcome.specs.declared.outcome.Form.TheVariants.{Ran}
use Rattle.pb_plan.specs.Plan.{PlanOf, bare_play, bare_plan, bare_tree}
use Rattle.pb_state.specs.declared.event.Event.{Event}
use Rattle.pb_state.specs.declared.event.Event.TheVariants.{Open, Start, Send, Report as Reported, Turn, Close, Stop, Forks}
use Rattle.pb_state.specs.BlockRows.{runs}
use Rattle.pb_host.specs.FactRows.{on_facts}
use Rattle.pb_engine.specs.declared.command.Command.{Command}
use Rattle.pb_engine.specs.declared.command.Command.TheVariants.{Stop as ToStop, Forks as ToForks}
use Rattle.pb_driver.specs.declared.given.Given.{Given}
use Rattle.pb_driver.specs.Commanded.{run_with, own_events}

abbrev pair : PlanOf
pair = record (bare_plan (codes "a" ∷ codes "b" ∷ []) (bare_play (codes "all") (bare_tree 0 1 0) (runs ∷ []) (true ∷ true ∷ []) ∷ [])) { forks = 1 }

-- a host starts, its job is sent, and its program ends with status 0
abbrev ran : ℕ → List Event
ran h =
    Start (record { 0 = h }) ∷ Send (record { 0 = h }) 0 1 (record { 0 = h }) ∷ Reported (record { ticket = record { 0 = h }; host = record { 0 = h }; item = 0; attempt = 1; outcome = Ran (pos 0) [] [] }) ∷ []

abbrev given : ℕ → Command → Given
given reports command = record { after = reports; command = command }

abbrev run_of : List Given → List Event → List Event
run_of commands events = run_with pair 256 commands events

-- a stop stands directly behind the report that reaches its number, or at the beginning
stops_behind_one : run_of (given 1 ToStop ∷ []) (Open ∷ ran 0) ≡ Open ∷ ran 0 ++ Stop ∷ []
unfolding on_facts
stops_behind_one = refl

stops_at_once : run_of (given 0 ToStop ∷ []) [] ≡ Stop ∷ []
unfolding on_facts
stops_at_once = refl

-- it is given behind the last report too, since the machine has a turn to take
stops_behind_two : run_of (given 2 ToStop ∷ []) (Open ∷ ran 0 ++ ran 1) ≡ Open ∷ ran 0 ++ ran 1 ++ Stop ∷ []
unfolding on_facts
stops_behind_two = refl

-- a number that isn't reached gives nothing
never_stops : run_of (given 3 ToStop ∷ []) (Open ∷ ran 0 ++ ran 1 ++ Turn ∷ Close ∷ []) ≡ Open ∷ ran 0 ++ ran 1 ++ Turn ∷ Close ∷ []
unfolding on_facts
never_stops = refl

-- a command waits for those in front of it in the list, and then is given at once
waits_in_line : run_of (given 1 (ToForks 2) ∷ given 0 ToStop ∷ []) (Open ∷ ran 0) ≡ Open ∷ ran 0 ++ Forks 2 ∷ Stop ∷ []
unfolding on_facts
waits_in_line = refl

-- one that is refused changes nothing: too many forks, and whatever comes where a run is at its end
too_many_forks : run_of (given 0 (ToForks 257) ∷ given 1 ToStop ∷ []) (Open ∷ ran 0) ≡ Open ∷ ran 0 ++ Stop ∷ []
unfolding on_facts
too_many_forks = refl

stopped_already : run_of (given 0 ToStop ∷ given 0 (ToForks 2) ∷ []) [] ≡ Stop ∷ []
unfolding on_facts
stopped_already = refl

-- the events of a run but its commands
not_its_own : own_events (Open ∷ Forks 2 ∷ ran 0 ++ Stop ∷ []) ≡ Open ∷ ran 0
not_its_own = refl
