-- One host by itself: it goes through the tree of each play that has it, and does what stands at each place to which its answers lead it, as long as it is
-- active. There are no other hosts, no batches and no strategy (Ansible's documentation, "Controlling playbook execution: strategies and more").
use Rattle.std.specs.Prelude.{◌≡◌, ℕ, zero, suc, ◌+◌, ◌==◌, Bool, true, false, ◌&&◌, ◌||◌, not, List, [], ◌∷◌, Option, Some, None, slice_get, if◌then◌else◌, map}
use Rattle.std.specs.List.{list_any, list_all}
use Rattle.pb_tree.specs.Tree.{size_of}
use Rattle.pb_strategies.specs.declared.strategy.Strategy.TheVariants.{Linear}
use Rattle.pb_places.specs.Place.{PlaceOf}
use Rattle.pb_plan.specs.Plan.{PlayOf, PlanOf}
use Rattle.pb_host.specs.declared.host.Running.{Running}
use Rattle.pb_host.specs.Host.{HostOf, first_row, next_place, is_play_host, joined}
use Rattle.pb_state.specs.declared.event.Event.{Event}
use Rattle.pb_state.specs.Machine.{is_left}
use Rattle.pb_state.specs.State.{State}
use Rattle.pb_confluence.specs.Fixed.{Fixed}
use Rattle.pb_confluence.specs.Effect.{played_out, whole}
use Rattle.pb_independence.specs.Independent.{is_independent}
use Rattle.pb_confluence.specs.Confluence.{IsEnd}

-- a host that runs a task ends it, and one that stands somewhere starts the task there and ends it; at its end a host does nothing
abbrev pub goes_at : PlanOf → Fixed → ℕ → PlayOf → Option ℕ → HostOf → HostOf
goes_at plan f number play None row = row
goes_at plan f number play (Some p) row = whole plan f number play p row

abbrev pub goes : PlanOf → Fixed → ℕ → PlayOf → Option Running → HostOf → HostOf
goes plan f number play None row = goes_at plan f number play (next_place row) row
goes plan f number play (Some r) row = played_out plan f number play (Some r) row

-- so many times: as many as there are places are enough
abbrev pub walks : PlanOf → Fixed → ℕ → PlayOf → ℕ → HostOf → HostOf
walks plan f number play zero row = row
walks plan f number play (suc n) row = walks plan f number play n (goes plan f number play row.running row)

-- what stays of a host between plays
abbrev pub between : HostOf → HostOf
between row = record (first_row row.host) { status = row.status; facts = row.facts; counts = row.counts }

-- the host in this play; where it isn't one of the play's own, or isn't active, it stays as it is
abbrev pub alone_in : PlanOf → Fixed → ℕ → PlayOf → HostOf → HostOf
alone_in plan f number play row = if is_play_host play.hosts row then between (walks plan f number play (size_of play.tree) (joined play.tree true (between row))) else row

-- plays, of which the first has this number
abbrev pub alone_from : PlanOf → Fixed → ℕ → List PlayOf → HostOf → HostOf
alone_from plan f number [] row = row
alone_from plan f number (play ∷ plays) row = alone_from plan f (number + 1) plays (alone_in plan f number play row)

-- the host with this number, after the whole playbook
abbrev pub alone : PlanOf → Fixed → ℕ → HostOf
alone plan f host = alone_from plan f 0 plan.plays (first_row host)

-- ---- plans in which no host has an effect on others: nothing runs once, no failure is fatal for all, and any number of hosts may fail
abbrev pub couples : PlaceOf → Bool
couples place = place.run_once || place.any_errors_fatal

abbrev pub is_uncoupled : PlayOf → Bool
is_uncoupled play = not (list_any couples play.places) && (play.max_fail_percentage == 100)

abbrev pub are_uncoupled : PlanOf → Bool
are_uncoupled plan = list_all is_uncoupled plan.plays

-- a finished run that wasn't stopped, and that didn't end early while a batch was left, gives each host what it reaches alone, under any strategies
abbrev pub EndsAlone : Type 0
EndsAlone =
    (plan : PlanOf) (f : Fixed) (pool : ℕ) (trail : List Event) (s : State) → are_uncoupled plan ≡ true → is_independent plan ≡ true → IsEnd plan f pool trail s →
    (s.ended ≡ true → is_left plan s ≡ false) →
    (h : ℕ) (row : HostOf) → slice_get s.rows h ≡ Some row → (row.facts ≡ (alone plan f h).facts) × (row.counts ≡ (alone plan f h).counts)

-- ---- plans that differ in how they are run: in strategies, in sizes of batches, and in forks
abbrev pub without_order : PlayOf → PlayOf
without_order play = record play { strategy = Linear; serial = [] }

-- a plan without its own: its plays are linear and have no sizes of batches, and there is one fork and no warning
abbrev pub without_orders : PlanOf → PlanOf
without_orders plan = record plan { plays = map without_order plan.plays; forks = 1; warnings = [] }

-- whole runs of two of them give each host the same facts and counts
abbrev pub StrategiesAgree : Type 0
StrategiesAgree =
    (one two : PlanOf) (f : Fixed) (pool other_pool : ℕ) (trail other : List Event) (s t : State) → without_orders one ≡ without_orders two →
    are_uncoupled one ≡ true → is_independent one ≡ true → are_uncoupled two ≡ true → is_independent two ≡ true → IsEnd one f pool trail s → IsEnd two f other_pool other t →
    (s.ended ≡ true → is_left one s ≡ false) → (t.ended ≡ true → is_left two t ≡ false) →
    (h : ℕ) (row new : HostOf) → slice_get s.rows h ≡ Some row → slice_get t.rows h ≡ Some new → (row.facts ≡ new.facts) × (row.counts ≡ new.counts)
