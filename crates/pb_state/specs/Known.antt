-- The map of `hostvars` that is kept from step to step, and which steps surely leave what the hosts know as it was
-- (Ansible's documentation, "Discovering variables: facts and magic variables").
use Rattle.std.specs.Prelude.{◌≡◌, ℕ, List, Bool, true, false, not, ◌&&◌, ◌||◌, Option, Some, None, is_none, IfSome, slice_get}
use Rattle.std.specs.Option.{option_map_or}
use Rattle.pb_value.specs.Datum.{Datum}
use Rattle.pb_facts.specs.declared.facts.Gives.{Gives}
use Rattle.pb_facts.specs.declared.facts.Gives.TheVariants.{Nothing, Sets, Gathers}
use Rattle.pb_variables.specs.Magic.{hostvars, hosts_magic}
use Rattle.pb_places.specs.Place.{PlaceOf}
use Rattle.pb_plan.specs.Plan.{PlayOf, PlanOf}
use Rattle.pb_task_vars.specs.Learning.{gives_of}
use Rattle.pb_host.specs.declared.host.Running.{Running}
use Rattle.pb_host.specs.Host.{HostOf, runs_once_at}
use Rattle.pb_state.specs.declared.event.Event.{Event}
use Rattle.pb_state.specs.declared.event.Event.TheVariants.{Open, Start, Send, Report as Reported, Turn, Close, Stop, Forks}
use Rattle.pb_state.specs.State.{State}
use Rattle.pb_state.specs.Machine.{open_play, next_at, learnt_by}

-- the map of `hostvars` in a state
abbrev pub hosts_now : PlanOf → State → List (List ℕ × Datum)
hosts_now plan s = hosts_magic (hostvars plan.inventory plan.extra (learnt_by s.rows))

-- what is kept is what would be made
abbrev pub IsKnown : PlanOf → State → Option (List (List ℕ × Datum)) → Type 0
IsKnown plan s known = IfSome known (λ hosts. hosts ≡ hosts_now plan s)

-- a module neither sets facts nor gathers them
abbrev pub gives_nothing : Gives → Bool
gives_nothing Nothing = true
gives_nothing Sets = false
gives_nothing Gathers = false

-- a task that registers nothing and gives no facts teaches nothing, neither its host nor others, also where its facts are delegated
abbrev pub teaches_nothing : PlaceOf → Bool
teaches_nothing place = is_none place.task.register && gives_nothing (gives_of place.task.«module»)

-- the same of the task at a place; a place without a task teaches nothing
abbrev pub teaches_nothing_at : PlayOf → ℕ → Bool
teaches_nothing_at play p = option_map_or teaches_nothing (slice_get play.places p) true

-- the place of the task that a host runs
abbrev pub running_at : State → ℕ → Option ℕ
running_at s h = option_map_or (λ (row : HostOf). option_map_or (λ (r : Running). Some r.place) row.running None) (slice_get s.rows h) None

-- where a host starts, the task at its next place surely teaches nothing, or it has no next place
abbrev pub start_keeps : State → ℕ → PlayOf → Bool
start_keeps s h play = option_map_or (teaches_nothing_at play) (next_at s h) true

-- where a report of a host comes, the task that it runs surely teaches nothing, or it runs none
abbrev pub report_keeps : State → ℕ → PlayOf → Bool
report_keeps s h play = option_map_or (teaches_nothing_at play) (running_at s h) true

-- at a turn the hosts of the batch learn what one of them did for all
abbrev pub turn_keeps_at : PlayOf → ℕ → Bool
turn_keeps_at play p = not (runs_once_at play p) || teaches_nothing_at play p

-- the same at the current place; a turn without one teaches nothing
abbrev pub turn_keeps : State → PlayOf → Bool
turn_keeps s play = option_map_or (turn_keeps_at play) s.place true

-- after these events the hosts know what they knew; after the others they may know more
abbrev pub keeps_facts : PlanOf → State → Event → Bool
keeps_facts plan s Open = true
keeps_facts plan s (Start h) = option_map_or (start_keeps s h.0) (open_play plan s) true
keeps_facts plan s (Send h item attempt ticket) = true
keeps_facts plan s (Reported r) = option_map_or (report_keeps s r.host.0) (open_play plan s) true
keeps_facts plan s Turn = option_map_or (turn_keeps s) (open_play plan s) true
keeps_facts plan s Close = true
keeps_facts plan s Stop = true
keeps_facts plan s (Forks n) = true
