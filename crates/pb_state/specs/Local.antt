-- What a step changes, and what it looks at. In a plan whose hosts know nothing of each other a start, a send and a report of a host change this host's row
-- alone, to what the plan, the play, the row and the event make of it; and where a batch opens, turns or closes, rows, play, batch and place alone say what
-- comes of them. How many hosts may run at once is nothing to either (Ansible's documentation, "Controlling playbook execution: strategies and more").
use Rattle.std.specs.Prelude.{◌≡◌, ℕ, Bool, true, false, List, Option, Some}
use Rattle.pb_plan.specs.Plan.{PlayOf, PlanOf}
use Rattle.pb_task_vars.specs.Results.{items_at}
use Rattle.pb_independence.specs.Independent.{is_independent}
use Rattle.pb_host.specs.Host.{HostOf, progressed, sent, reported}
use Rattle.pb_hosts.specs.Hosts.{change}
use Rattle.pb_state.specs.declared.event.Event.{Event}
use Rattle.pb_state.specs.declared.event.Event.TheVariants.{Open, Start, Send, Report as Reported, Turn, Close, Stop, Forks}
use Rattle.pb_state.specs.Machine.{after, open_play, next_at}
use Rattle.pb_state.specs.State.{State}

-- the plan with another number of forks
abbrev pub under : ℕ → PlanOf → PlanOf
under forks plan = record plan { forks = forks }

-- a task as it starts on a host, which sees of all that hosts have learnt only what is its own
abbrev pub starts : PlanOf → PlayOf → (host p : ℕ) → HostOf → HostOf
starts plan play host p row = progressed plan.inventory play p (items_at plan play host row.facts p) row

-- in an open play
abbrev pub IsLocalIn : PlanOf → State → State → Event → PlayOf → Type 0
IsLocalIn plan old new Open play = Unit {0}
IsLocalIn plan old new (Start h) play = (p : ℕ) → next_at old h.0 ≡ Some p → new.rows ≡ change old.rows h.0 (starts plan play h.0 p)
IsLocalIn plan old new (Send h item attempt ticket) play = new.rows ≡ change old.rows h.0 (sent ticket)
IsLocalIn plan old new (Reported r) play = new.rows ≡ change old.rows r.host.0 (reported plan play r.outcome)
IsLocalIn plan old new Turn play = Unit {0}
IsLocalIn plan old new Close play = Unit {0}
IsLocalIn plan old new Stop play = Unit {0}
IsLocalIn plan old new (Forks n) play = Unit {0}

-- whatever the plan's forks
abbrev pub IsLocal : PlanOf → State → State → Event → Type 0
IsLocal plan old new event = (forks : ℕ) (play : PlayOf) → is_independent plan ≡ true → open_play plan old ≡ Some play → IsLocalIn (under forks plan) old new event play

-- what of a state says where the hosts of a batch are, and which batches are left
pub record Place : Type 0 where
  pub rows : List HostOf
  pub play : ℕ
  pub batch : ℕ
  pub sizes_left : List ℕ
  pub is_open : Bool
  pub place : Option ℕ
  pub ended : Bool

abbrev pub place_in : State → Place
place_in s = record { rows = s.rows; play = s.play; batch = s.batch; sizes_left = s.sizes_left; is_open = s.is_open; place = s.place; ended = s.ended }

-- the events of a batch as a whole, and of no one host: it opens, turns or closes
abbrev pub is_shared : Event → Bool
is_shared Open = true
is_shared (Start h) = false
is_shared (Send h item attempt ticket) = false
is_shared (Reported r) = false
is_shared Turn = true
is_shared Close = true
is_shared Stop = false
is_shared (Forks n) = false

-- nothing else is anything to an opening, a turn or a closing: neither forks nor workers, tickets, or what the last step came to
abbrev pub MovesByPlace : PlanOf → State → State → Event → Type 0
MovesByPlace plan old new event =
    (forks : ℕ) (other : State) → is_shared event ≡ true → place_in other ≡ place_in old → place_in (after (under forks plan) other event) ≡ place_in new
