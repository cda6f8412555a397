-- Nothing is run twice: each task starts once on each host of a play's batch, and each attempt at an item of it is sent once. An item may be sent
-- again, but then as another attempt (Ansible's documentation, "Controlling playbook execution: strategies", "Retrying a task until a condition is met").
use Rattle.std.specs.Prelude.{◌≢◌, ℕ, List, [], ◌∷◌, ◌++◌, Option, None, option_map, slice_get}
use Rattle.std.specs.Option.{option_map_or}
use Rattle.pb_ids.specs.declared.numbers.HostNo.{HostNo}
use Rattle.pb_state.specs.declared.event.Event.{Event}
use Rattle.pb_state.specs.declared.event.Event.TheVariants.{Start, Send}
use Rattle.pb_host.specs.declared.host.Running.{Running}
use Rattle.pb_plan.specs.Plan.{PlanOf}
use Rattle.pb_host.specs.Host.{HostOf}
use Rattle.pb_state.specs.State.{State}
use Rattle.pb_state.specs.Machine.{after, next_at, first_state}
use Rattle.pb_state.specs.Run.{IsLegalUnder}

-- a host starts the task at a place of a play
pub record StartOf : Type 0 where
  pub host : HostNo
  pub play : ℕ
  pub place : Option ℕ

-- the job of an attempt at an item of a host's task goes out
pub record SendOf : Type 0 where
  pub host : HostNo
  pub play : ℕ
  pub place : Option ℕ
  pub item : ℕ
  pub attempt : ℕ

-- the place of the task that a host runs
abbrev pub running_place : HostOf → Option ℕ
running_place row = option_map (λ (r : Running). r.place) row.running

-- the same of the host with this number; none too where there is no such host
abbrev pub place_run_by : State → HostNo → Option ℕ
place_run_by s host = option_map_or running_place (slice_get s.rows host.0) None

-- what an event starts: at the next place of the host in the open play
abbrev pub starts_of : State → Event → List StartOf
starts_of s (Start host) = record { host = host; play = s.play; place = next_at s host.0 } ∷ []
starts_of s other = []

-- what an event sends: at the place of the task that the host runs
abbrev pub sends_of : State → Event → List SendOf
sends_of s (Send host item attempt ticket) = record { host = host; play = s.play; place = place_run_by s host; item = item; attempt = attempt } ∷ []
sends_of s other = []

-- what the events start, and what they send, one after another
abbrev pub starts_from : PlanOf → State → List Event → List StartOf
starts_from plan s [] = []
starts_from plan s (e ∷ es) = starts_of s e ++ starts_from plan (after plan s e) es

abbrev pub sends_from : PlanOf → State → List Event → List SendOf
sends_from plan s [] = []
sends_from plan s (e ∷ es) = sends_of s e ++ sends_from plan (after plan s e) es

-- an entry is none of these
abbrev pub IsNotIn : {A : Type 0} → A → List A → Type 0
IsNotIn x [] = Unit {0}
IsNotIn x (y ∷ ys) = (x ≢ y) × IsNotIn x ys

-- a list has no entry twice
abbrev pub NoTwice : {A : Type 0} → List A → Type 0
NoTwice [] = Unit {0}
NoTwice (x ∷ xs) = IsNotIn x xs × NoTwice xs

-- no two starts of the events agree in host, play and place, and no two sends agree in host, play, place, item and attempt
pub record IsOnce (plan : PlanOf) (s : State) (trail : List Event) : Type 0 where
  pub starts : NoTwice (starts_from plan s trail)
  pub sends : NoTwice (sends_from plan s trail)

-- whatever events are possible one after another from the first state on, they do nothing twice
abbrev pub NothingTwice : Type 0
NothingTwice =
    (plan : PlanOf) (forks pool : ℕ) (trail : List Event) →
    IsLegalUnder plan forks pool trail → IsOnce plan (first_state plan forks pool) trail
