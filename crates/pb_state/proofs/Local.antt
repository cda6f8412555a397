-- A step changes what it says, and looks at nothing else.
use Rattle.std.proofs.Common.{◌≡◌, ◌∙◌, ℕ, ◌+◌, Bool, true, false, List, [], map, refl, sym, ap}
use Rattle.std.specs.Prelude.{Option, Some, None, IfSome, slice_get, slice_set, if◌then◌else◌}
use Rattle.std.specs.Option.{option_map_or}
use Rattle.pb_batches.specs.Sizes.{batch_sizes}
use Rattle.pb_inventory.specs.InventoryOf.{InventoryOf}
use Rattle.pb_facts.specs.Facts.{FactsOf, no_facts}
use Rattle.pb_outcome.specs.declared.item.Item.{Item}
use Rattle.pb_outcome.specs.declared.job.Report.{Report}
use Rattle.pb_outcome.specs.declared.outcome.Form.{Form}
use Rattle.pb_plan.specs.Plan.{PlayOf, PlanOf}
use Rattle.pb_task_vars.specs.declared.gifts.DelegatedFacts.{DelegatedFacts}
use Rattle.pb_task_vars.specs.Learning.{facts_after_end}
use Rattle.pb_task_vars.specs.Results.{items_at, came_at}
use Rattle.pb_independence.specs.Apart.{AreApart}
use Rattle.pb_independence.proofs.Independence.{apart_of}
use Rattle.pb_host.specs.declared.host.Running.{Running}
use Rattle.pb_host.specs.Back.{SameAttempts}
use Rattle.pb_host.specs.Host.{HostOf, as_play_begins, progressed, reported, items_after}
use Rattle.pb_hosts.specs.Batches.{has_batch_left, play_host_count}
use Rattle.pb_hosts.specs.Hosts.{change}
use Rattle.pb_hosts.specs.Giving.{with_delegated, gifts_at, gifts_by, gifts_of}
use Rattle.pb_state.specs.declared.event.Event.{Event}
use Rattle.pb_state.specs.declared.event.Event.TheVariants.{Open, Start, Send, Report as Reported, Turn, Close, Stop, Forks}
use Rattle.pb_state.specs.Machine.{after, open_play, learnt_by, facts_at, plan_seen, next_play, start_at, started_in, sent_in, reported_in, turned_in, opened_by, goes_on, begins, begins_at}
use Rattle.pb_state.specs.State.{State}
use Rattle.pb_state.specs.Local.{under, is_shared, starts, IsLocalIn, IsLocal, Place, place_in, MovesByPlace}
use Rattle.pb_state.proofs.ReadHosts.{rows_same}

pub opened : (b : Bool) (found : Option PlayOf) (play : PlayOf) → (if b then found else None) ≡ Some play → (b ≡ true) × (found ≡ Some play)
opened true found play e = (refl, e)
opened false found play e = cc

-- ---- changes of one row that are alike there
pub change_at : (rows : List HostOf) (h : ℕ) (f g : HostOf → HostOf) → ((row : HostOf) → slice_get rows h ≡ Some row → f row ≡ g row) → change rows h f ≡ change rows h g
change_at rows h f g on = by_found (slice_get rows h) refl
  where
    by_found : (found : Option HostOf) → slice_get rows h ≡ found → option_map_or (λ (row : HostOf). slice_set rows h (f row)) found rows ≡ option_map_or (λ (row : HostOf). slice_set rows h (g row)) found rows
    by_found None e = refl
    by_found (Some row) e = ap (slice_set rows h) (on row e)

-- ---- a start
start_facts : (s : State) (h : ℕ) (row : HostOf) → slice_get s.rows h ≡ Some row → facts_at s h ≡ row.facts
start_facts s h row there = ap (λ (found : Option HostOf). option_map_or (λ (r : HostOf). r.facts) found no_facts) there

pub start_local : (plan : PlanOf) (s : State) (h n : ℕ) (play : PlayOf) (p : ℕ) → AreApart plan → slice_get plan.plays n ≡ Some play → (start_at plan s h play p).rows ≡ change s.rows h (starts plan play h p)
start_local plan s h n play p apart there =
    ap (λ (gifts : List DelegatedFacts). with_delegated gifts (change s.rows h (progressed plan.inventory play p (items_at (plan_seen plan s) play h (facts_at s h) p)))) (apart.gives n play there p h (items_at (plan_seen plan s) play h (facts_at s h) p))
    ∙ change_at s.rows h (progressed plan.inventory play p (items_at (plan_seen plan s) play h (facts_at s h) p)) (starts plan play h p)
    (λ row found.
    ap (λ (items : List Item). progressed plan.inventory play p items row)
    (apart.starts n play there (learnt_by s.rows) h (facts_at s h) p ∙ ap (λ (facts : FactsOf). items_at plan play h facts p) (start_facts s h row found)))

-- ---- a report
attempts_same : (plan : PlanOf) (s : State) (n : ℕ) (play : PlayOf) (row : HostOf) (x : Option Running) → AreApart plan → slice_get plan.plays n ≡ Some play → SameAttempts (plan_seen plan s) plan play row x
attempts_same plan s n play row None apart there = tt
attempts_same plan s n play row (Some r) apart there = λ value attempt item. apart.attempts n play there (learnt_by s.rows) row.host row.facts r.place value attempt item

attempts_found : (plan : PlanOf) (s : State) (n : ℕ) (play : PlayOf) (found : Option HostOf) → AreApart plan → slice_get plan.plays n ≡ Some play → IfSome found (λ row. SameAttempts (plan_seen plan s) plan play row row.running)
attempts_found plan s n play None apart there = tt
attempts_found plan s n play (Some row) apart there = attempts_same plan s n play row row.running apart there

gives_run : (plan seen : PlanOf) (n : ℕ) (play : PlayOf) (outcome : Form) (h : ℕ) (row : HostOf) (x : Option Running) → AreApart plan → slice_get plan.plays n ≡ Some play → seen.inventory ≡ plan.inventory
    → option_map_or (gifts_by seen play outcome h row) x [] ≡ []
gives_run plan seen n play outcome h row None apart there is = refl
gives_run plan seen n play outcome h row (Some r) apart there is =
    ap (λ (inventory : InventoryOf). gifts_at inventory play r.place h (items_after seen play row.host row.facts outcome r)) is
    ∙ apart.gives n play there r.place h (items_after seen play row.host row.facts outcome r)

gives_none : (plan seen : PlanOf) (n : ℕ) (play : PlayOf) (outcome : Form) (h : ℕ) (found : Option HostOf) → AreApart plan → slice_get plan.plays n ≡ Some play → seen.inventory ≡ plan.inventory
    → option_map_or (gifts_of seen play outcome h) found [] ≡ []
gives_none plan seen n play outcome h None apart there is = refl
gives_none plan seen n play outcome h (Some row) apart there is = gives_run plan seen n play outcome h row row.running apart there is

pub report_rows : (plan : PlanOf) (s : State) (r : Report) (n : ℕ) (play : PlayOf) → AreApart plan → slice_get plan.plays n ≡ Some play → (reported_in plan s r play).rows ≡ change s.rows r.host.0 (reported plan play r.outcome)
report_rows plan s r n play apart there =
    ap (λ (gifts : List DelegatedFacts). with_delegated gifts (change s.rows r.host.0 (reported (plan_seen plan s) play r.outcome))) (gives_none plan (plan_seen plan s) n play r.outcome r.host.0 (slice_get s.rows r.host.0) apart there refl)
    ∙ rows_same (plan_seen plan s) plan refl play r.outcome s.rows r.host.0 (slice_get s.rows r.host.0) refl (attempts_found plan s n play (slice_get s.rows r.host.0) apart there)

-- ---- forks are nothing to what becomes of a row
pub starts_forks : (plan : PlanOf) (play : PlayOf) (forks host p : ℕ) (row : HostOf) → starts (under forks plan) play host p row ≡ starts plan play host p row
unfolding items_at facts_after_end
starts_forks plan play forks host p row = refl

pub reported_forks : (plan : PlanOf) (play : PlayOf) (forks : ℕ) (outcome : Form) (row : HostOf) → reported (under forks plan) play outcome row ≡ reported plan play outcome row
unfolding came_at facts_after_end
reported_forks plan play forks outcome row = refl

-- ---- each event of a host
local_in : (plan : PlanOf) (s : State) (e : Event) (play : PlayOf) (forks : ℕ) → AreApart plan → open_play plan s ≡ Some play → IsLocalIn (under forks plan) s (after plan s e) e play
local_in plan s Open play forks apart o = tt
local_in plan s (Start h) play forks apart o =
    λ p next.
    ap (λ (found : Option PlayOf). (option_map_or (started_in plan s h.0) found s).rows) o ∙ ap (λ (place : Option ℕ). (option_map_or (start_at plan s h.0 play) place s).rows) next
    ∙ start_local plan s h.0 s.play play p apart (opened s.is_open (slice_get plan.plays s.play) play o).1
    ∙ change_at s.rows h.0 (starts plan play h.0 p) (starts (under forks plan) play h.0 p) (λ row found. sym (starts_forks plan play forks h.0 p row))
local_in plan s (Send h item attempt ticket) play forks apart o = ap (λ (found : Option PlayOf). (option_map_or (sent_in s h.0 ticket) found s).rows) o
local_in plan s (Reported r) play forks apart o =
    ap (λ (found : Option PlayOf). (option_map_or (reported_in plan s r) found s).rows) o
    ∙ report_rows plan s r s.play play apart (opened s.is_open (slice_get plan.plays s.play) play o).1
    ∙ change_at s.rows r.host.0 (reported plan play r.outcome) (reported (under forks plan) play r.outcome) (λ row found. sym (reported_forks plan play forks r.outcome row))
local_in plan s Turn play forks apart o = tt
local_in plan s Close play forks apart o = tt
local_in plan s Stop play forks apart o = tt
local_in plan s (Forks n) play forks apart o = tt

pub is_local : (plan : PlanOf) (s new : State) (e : Event) → new ≡ after plan s e → IsLocal plan s new e
is_local plan s new e is = λ forks play independent o. rw is (local_in plan s e play forks (apart_of plan independent) o)

-- ---- what all hosts take part in
abbrev at_place : Place → State → State
at_place c s = record s { rows = c.rows; play = c.play; batch = c.batch; sizes_left = c.sizes_left; is_open = c.is_open; place = c.place; ended = c.ended }

opens_by : (c : Place) (s t : State) (n batch : ℕ) (sizes : List ℕ) (rows : List HostOf) (play : PlayOf) (size : Option ℕ)
    → place_in (option_map_or (opened_by (at_place c t) n batch sizes rows play) size (at_place c t)) ≡ place_in (option_map_or (opened_by (at_place c s) n batch sizes rows play) size (at_place c s))
opens_by c s t n batch sizes rows play None = refl
opens_by c s t n batch sizes rows play (Some size) = refl

goes_by : (c : Place) (s t : State) (found : Option PlayOf) → place_in (option_map_or (goes_on (at_place c t)) found (at_place c t)) ≡ place_in (option_map_or (goes_on (at_place c s)) found (at_place c s))
goes_by c s t None = refl
goes_by c s t (Some play) = opens_by c s t c.play (c.batch + 1) c.sizes_left c.rows play (slice_get c.sizes_left 0)

begins_by : (c : Place) (s t : State) (n : ℕ) (found : Option PlayOf) → place_in (option_map_or (begins (at_place c t) n) found (at_place c t)) ≡ place_in (option_map_or (begins (at_place c s) n) found (at_place c s))
begins_by c s t n None = refl
begins_by c s t n (Some play) =
    opens_by c s t n 0 (batch_sizes play.serial (play_host_count play.hosts c.rows)) (map (as_play_begins play.hosts) c.rows) play (slice_get (batch_sizes play.serial (play_host_count play.hosts c.rows)) 0)

next_by : (plan : PlanOf) (forks : ℕ) (c : Place) (s t : State) (next : Option ℕ)
    → place_in (option_map_or (begins_at (under forks plan) (at_place c t)) next (at_place c t)) ≡ place_in (option_map_or (begins_at plan (at_place c s)) next (at_place c s))
next_by plan forks c s t None = refl
next_by plan forks c s t (Some n) = begins_by c s t n (slice_get plan.plays n)

open_by : (plan : PlanOf) (forks : ℕ) (c : Place) (s t : State) (sizes_left : Bool)
    → place_in (if sizes_left then option_map_or (goes_on (at_place c t)) (slice_get plan.plays c.play) (at_place c t) else option_map_or (begins_at (under forks plan) (at_place c t)) (next_play plan (at_place c t)) (at_place c t))
    ≡ place_in (if sizes_left then option_map_or (goes_on (at_place c s)) (slice_get plan.plays c.play) (at_place c s) else option_map_or (begins_at plan (at_place c s)) (next_play plan (at_place c s)) (at_place c s))
open_by plan forks c s t true = goes_by c s t (slice_get plan.plays c.play)
open_by plan forks c s t false = next_by plan forks c s t (next_play plan (at_place c s))

turn_by : (inventory : InventoryOf) (c : Place) (s t : State) (found : Option PlayOf)
    → place_in (option_map_or (turned_in inventory (at_place c t)) found (at_place c t)) ≡ place_in (option_map_or (turned_in inventory (at_place c s)) found (at_place c s))
turn_by inventory c s t None = refl
turn_by inventory c s t (Some play) = refl

moved_by : (plan : PlanOf) (forks : ℕ) (c : Place) (s t : State) (e : Event) → is_shared e ≡ true → place_in (after (under forks plan) (at_place c t) e) ≡ place_in (after plan (at_place c s) e)
moved_by plan forks c s t Open shared = open_by plan forks c s t (has_batch_left c.sizes_left)
moved_by plan forks c s t (Start h) shared = cc
moved_by plan forks c s t (Send h item attempt ticket) shared = cc
moved_by plan forks c s t (Reported r) shared = cc
moved_by plan forks c s t Turn shared = turn_by plan.inventory c s t (if c.is_open then slice_get plan.plays c.play else None)
moved_by plan forks c s t Close shared = refl
moved_by plan forks c s t Stop shared = cc
moved_by plan forks c s t (Forks n) shared = cc

pub moves_by_place : (plan : PlanOf) (s new : State) (e : Event) → new ≡ after plan s e → MovesByPlace plan s new e
moves_by_place plan s new e is =
    λ forks other shared same.
    ap (λ (c : Place). place_in (after (under forks plan) (at_place c other) e)) same ∙ moved_by plan forks (place_in s) s other e shared ∙ ap place_in (sym is)
