-- After a step that teaches nothing the hosts know what they knew, so that what is kept of it is what would be made: an opening and a closing teach nothing,
-- and a turn only what one host did for all.
use Rattle.std.proofs.Common.{◌≡◌, ◌∙◌, ℕ, zero, suc, ◌+◌, Bool, true, false, not, ◌&&◌, ◌||◌, List, [], ◌∷◌, map, Option, Some, None, IfSome, is_none, slice_get, refl, sym, ap}
use Rattle.std.specs.Prelude.{slice_set, if◌then◌else◌}
use Rattle.std.specs.Option.{option_map_or}
use Rattle.pb_value.specs.Datum.{Datum}
use Rattle.pb_ids.specs.declared.numbers.Ticket.{Ticket}
use Rattle.pb_inventory.specs.InventoryOf.{InventoryOf}
use Rattle.pb_facts.specs.declared.facts.Gives.{Gives}
use Rattle.pb_facts.specs.declared.facts.Gives.TheVariants.{Nothing, Sets, Gathers}
use Rattle.pb_facts.specs.Facts.{FactsOf, given_in, learnt}
use Rattle.pb_facts.proofs.Each.{each_nothing}
use Rattle.pb_outcome.specs.declared.gather.TaskResult.{TaskResult}
use Rattle.pb_outcome.specs.declared.item.Item.{Item}
use Rattle.pb_outcome.specs.declared.job.Report.{Report}
use Rattle.pb_outcome.specs.declared.outcome.Form.{Form}
use Rattle.pb_outcome.specs.Items.{is_over, result_of}
use Rattle.pb_batches.specs.Sizes.{batch_sizes}
use Rattle.pb_variables.specs.Magic.{hostvars, hosts_magic}
use Rattle.pb_places.specs.Place.{PlaceOf}
use Rattle.pb_play.specs.declared.modules.Module.{Module}
use Rattle.pb_plan.specs.Plan.{PlayOf, PlanOf}
use Rattle.pb_task_vars.specs.Delegates.{kept}
use Rattle.pb_task_vars.specs.Ends.{has_run}
use Rattle.pb_task_vars.specs.Learning.{gives_of, gives_if, learns_at, facts_after_end}
use Rattle.pb_task_vars.specs.Results.{items_at, variable_at}
use Rattle.pb_tree.specs.Tree.{TreeOf}
use Rattle.pb_tree.specs.declared.answer.Kind.TheVariants as kinds
use Rattle.pb_task_vars.specs.declared.gifts.DelegatedFacts.{DelegatedFacts}
use Rattle.pb_host.specs.declared.host.Running.{Running}
use Rattle.pb_host.specs.Ends.{plain_answer}
use Rattle.pb_host.specs.Host.{HostOf, answered, as_play_begins, ended, is_at, items_after, left, progressed, reported, reported_running, runs_once_at, sent, task_at}
use Rattle.pb_host.specs.Turned.{halted, may_be_halted}
use Rattle.pb_host.specs.declared.host.LastTask.{LastTask}
use Rattle.pb_hosts.specs.Batches.{has_batch_left, joined_first, play_host_count, room_behind}
use Rattle.pb_hosts.specs.Hosts.{change}
use Rattle.pb_hosts.specs.Turn.{BatchOf, copied, copied_if, copies, is_halting, run_once_host, turned_by, with_copy}
use Rattle.pb_hosts.specs.Giving.{with_delegated, gifts_at, gifts_of}
use Rattle.pb_state.specs.declared.event.Event.{Event}
use Rattle.pb_state.specs.declared.event.Event.TheVariants.{Open, Start, Send, Report as Reported, Turn, Close, Stop, Forks}
use Rattle.pb_state.specs.State.{State}
use Rattle.pb_state.specs.Machine.{after, batch_of, begins, begins_at, facts_at, goes_on, learnt_by, next_at, next_play, open_play, opened_by, plan_seen, reported_in, sent_in, start_at, started_in, turned_in}
use Rattle.pb_state.specs.Known.{IsKnown, gives_nothing, keeps_facts, report_keeps, start_keeps, teaches_nothing, teaches_nothing_at, turn_keeps, turn_keeps_at}
use Rattle.pb_state.proofs.Teaching.{gifts_same, gives_nothing_at, gives_nothing_in, report_same, run_place}

first_is : (a b : Bool) → (a && b) ≡ true → a ≡ true
first_is true b e = refl
first_is false b e = cc

second_is : (a b : Bool) → (a && b) ≡ true → b ≡ true
second_is true b e = e
second_is false b e = cc

none_is : (name : Option (List ℕ)) → is_none name ≡ true → name ≡ None
none_is None e = refl
none_is (Some name) e = cc

-- ---- one task
nothing_is : (gives : Gives) → gives_nothing gives ≡ true → gives ≡ Nothing
nothing_is Nothing e = refl
nothing_is Sets e = cc
nothing_is Gathers e = cc

gives_none : (went_well : Bool) (called : Module) → gives_nothing (gives_of called) ≡ true → gives_if went_well called ≡ Nothing
gives_none true called e = nothing_is (gives_of called) e
gives_none false called e = refl

learnt_none : (gives : Gives) (register : Option (List ℕ)) (result : Datum) (items : List Item) (facts : FactsOf) → gives ≡ Nothing → register ≡ None → learnt gives register result items facts ≡ facts
learnt_none gives register result items facts g r =
    ap (λ (given : Gives). learnt given register result items facts) g ∙ ap (λ (name : Option (List ℕ)). learnt Nothing name result items facts) r ∙ each_nothing (given_in items) facts

registers_none : (place : PlaceOf) → teaches_nothing place ≡ true → place.task.register ≡ None
registers_none place e = none_is place.task.register (first_is (is_none place.task.register) (gives_nothing (gives_of place.task.«module»)) e)

gives_none_at : (place : PlaceOf) → teaches_nothing place ≡ true → gives_nothing (gives_of place.task.«module») ≡ true
gives_none_at place e = second_is (is_none place.task.register) (gives_nothing (gives_of place.task.«module»)) e

if_same : (b : Bool) (facts known : FactsOf) → known ≡ facts → (if b then facts else known) ≡ facts
if_same true facts known e = refl
if_same false facts known e = e

facts_after_none : (inventory : InventoryOf) (play : PlayOf) (p : ℕ) (starter : Option ℕ) (task : TaskResult) (result : Datum) (items : List Item) (facts : FactsOf) →
    teaches_nothing_at play p ≡ true → facts_after_end inventory play p starter task result items facts ≡ facts
unfolding facts_after_end
facts_after_none inventory play p starter task result items facts e =
    if_same task.unreachable facts (option_map_or (learns_at inventory starter result (has_run task) items facts) (slice_get play.places p) facts) (by_place (slice_get play.places p) e)
  where
    by_place : (found : Option PlaceOf) → option_map_or teaches_nothing found true ≡ true → option_map_or (learns_at inventory starter result (has_run task) items facts) found facts ≡ facts
    by_place None e = refl
    by_place (Some place) e =
        learnt_none (gives_if (has_run task) place.task.«module») place.task.register result (kept inventory starter place.delegate_facts items) facts
        (gives_none (has_run task) place.task.«module» (gives_none_at place e)) (registers_none place e)

progressed_knows : (inventory : InventoryOf) (play : PlayOf) (p : ℕ) (items : List Item) (row : HostOf) → teaches_nothing_at play p ≡ true → (progressed inventory play p items row).facts ≡ row.facts
progressed_knows inventory play p items row e = by_over (is_over items)
  where
    by_over : (b : Bool) → (if b then ended inventory play p items row else record row { running = Some (record { place = p; items = items; out = None }) }).facts ≡ row.facts
    by_over true = facts_after_none inventory play p (Some row.host) (task_at play p items).result _ items row.facts e
    by_over false = refl

-- and gives nothing to other hosts
no_gifts : (play : PlayOf) (p : ℕ) → teaches_nothing_at play p ≡ true → gives_nothing_at play p ≡ true
no_gifts play p e = by_place (slice_get play.places p) e
  where
    by_place : (found : Option PlaceOf) → option_map_or teaches_nothing found true ≡ true → option_map_or gives_nothing_in found true ≡ true
    by_place None e = refl
    by_place (Some place) e = gives_none_at place e

-- ---- the rows of all hosts
set_knows : (rows : List HostOf) (h : ℕ) (row changed : HostOf) → slice_get rows h ≡ Some row → changed.facts ≡ row.facts → learnt_by (slice_set rows h changed) ≡ learnt_by rows
set_knows [] h row changed e same = cc
set_knows (r ∷ rows) zero row changed e same = let first : row ≡ r = cc in ap (λ (x : FactsOf). x ∷ learnt_by rows) (same ∙ ap (λ (x : HostOf). x.facts) first)
set_knows (r ∷ rows) (suc h) row changed e same = ap (λ (xs : List FactsOf). r.facts ∷ xs) (set_knows rows h row changed e same)

change_knows : (rows : List HostOf) (h : ℕ) (f : HostOf → HostOf) (found : Option HostOf) → slice_get rows h ≡ found → IfSome found (λ row. (f row).facts ≡ row.facts) → learnt_by (change rows h f) ≡ learnt_by rows
change_knows rows h f None e same = ap (λ (o : Option HostOf). learnt_by (option_map_or (λ row. slice_set rows h (f row)) o rows)) e
change_knows rows h f (Some row) e same = ap (λ (o : Option HostOf). learnt_by (option_map_or (λ row. slice_set rows h (f row)) o rows)) e ∙ set_knows rows h row (f row) e same

given_knows : (gifts : List DelegatedFacts) (rows all : List HostOf) → ((each : List HostOf) → learnt_by (with_delegated gifts each) ≡ learnt_by each) → learnt_by rows ≡ learnt_by all
    → learnt_by (with_delegated gifts rows) ≡ learnt_by all
given_knows gifts rows all nothing same = nothing rows ∙ same

for_each : (P : HostOf → Type 0) → ((row : HostOf) → P row) → (found : Option HostOf) → IfSome found P
for_each P f None = tt
for_each P f (Some row) = f row

start_knows : (plan : PlanOf) (s : State) (h : ℕ) (play : PlayOf) (p : ℕ) → teaches_nothing_at play p ≡ true → learnt_by (start_at plan s h play p).rows ≡ learnt_by s.rows
start_knows plan s h play p e =
    let items = items_at (plan_seen plan s) play h (facts_at s h) p in
    given_knows (gifts_at plan.inventory play p h items) (change s.rows h (progressed plan.inventory play p items)) s.rows (gifts_same plan.inventory play p h items (no_gifts play p e))
    (change_knows s.rows h (progressed plan.inventory play p items) (slice_get s.rows h) refl
    (for_each (λ row. (progressed plan.inventory play p items row).facts ≡ row.facts) (λ row. progressed_knows plan.inventory play p items row e) (slice_get s.rows h)))

reported_knows : (plan : PlanOf) (play : PlayOf) (outcome : Form) (row : HostOf) (running : Option Running) → option_map_or (teaches_nothing_at play) (run_place running) true ≡ true →
    (option_map_or (reported_running plan play outcome row) running row).facts ≡ row.facts
reported_knows plan play outcome row None e = refl
reported_knows plan play outcome row (Some r) e = progressed_knows plan.inventory play r.place (items_after plan play row.host row.facts outcome r) row e

no_gifts_run : (play : PlayOf) (place : Option ℕ) → option_map_or (teaches_nothing_at play) place true ≡ true → option_map_or (gives_nothing_at play) place true ≡ true
no_gifts_run play None e = refl
no_gifts_run play (Some p) e = no_gifts play p e

reports_know : (plan : PlanOf) (play : PlayOf) (outcome : Form) (rows : List HostOf) (h : ℕ) (found : Option HostOf) → slice_get rows h ≡ found →
    option_map_or (teaches_nothing_at play) (option_map_or (λ (row : HostOf). run_place row.running) found None) true ≡ true →
    learnt_by (with_delegated (option_map_or (gifts_of plan play outcome h) found []) (change rows h (reported plan play outcome))) ≡ learnt_by rows
reports_know plan play outcome rows h None is e = change_knows rows h (reported plan play outcome) None is tt
reports_know plan play outcome rows h (Some row) is e =
    given_knows (gifts_of plan play outcome h row) (change rows h (reported plan play outcome)) rows (report_same plan play outcome h row row.running (no_gifts_run play (run_place row.running) e))
    (change_knows rows h (reported plan play outcome) (Some row) is (reported_knows plan play outcome row row.running e))

-- ---- each event
start_in_knows : (plan : PlanOf) (s : State) (h : ℕ) (play : PlayOf) (next : Option ℕ) → option_map_or (teaches_nothing_at play) next true ≡ true → learnt_by (option_map_or (start_at plan s h play) next s).rows ≡ learnt_by s.rows
start_in_knows plan s h play None e = refl
start_in_knows plan s h play (Some p) e = start_knows plan s h play p e

started_knows : (plan : PlanOf) (s : State) (h : ℕ) (found : Option PlayOf) → option_map_or (start_keeps s h) found true ≡ true → learnt_by (option_map_or (started_in plan s h) found s).rows ≡ learnt_by s.rows
started_knows plan s h None e = refl
started_knows plan s h (Some play) e = start_in_knows plan s h play (next_at s h) e

came_knows : (plan : PlanOf) (s : State) (r : Report) (found : Option PlayOf) → option_map_or (report_keeps s r.host.0) found true ≡ true → learnt_by (option_map_or (reported_in plan s r) found s).rows ≡ learnt_by s.rows
came_knows plan s r None e = refl
came_knows plan s r (Some play) e = reports_know (plan_seen plan s) play r.outcome s.rows r.host.0 (slice_get s.rows r.host.0) refl e

sent_knows : (s : State) (h : ℕ) (ticket : Ticket) (found : Option PlayOf) → learnt_by (option_map_or (sent_in s h ticket) found s).rows ≡ learnt_by s.rows
sent_knows s h ticket None = refl
sent_knows s h ticket (Some play) = change_knows s.rows h (sent ticket) (slice_get s.rows h) refl (for_each (λ row. (sent ticket row).facts ≡ row.facts) (λ row. refl) (slice_get s.rows h))

-- ---- an opening, a closing and a turn
map_knows : (f : HostOf → HostOf) → ((row : HostOf) → (f row).facts ≡ row.facts) → (rows : List HostOf) → learnt_by (map f rows) ≡ learnt_by rows
map_knows f same [] = refl
map_knows f same (row ∷ rows) = ap (λ (x : FactsOf). x ∷ learnt_by (map f rows)) (same row) ∙ ap (λ (xs : List FactsOf). row.facts ∷ xs) (map_knows f same rows)

joined_know : (tree : TreeOf) (room : ℕ) (rows : List HostOf) → learnt_by (joined_first tree room rows) ≡ learnt_by rows
joined_know tree room [] = refl
joined_know tree room (row ∷ rows) = ap (λ (xs : List FactsOf). row.facts ∷ xs) (joined_know tree (room_behind room row.awaits_batch) rows)

opened_knows : (s : State) (n batch : ℕ) (sizes : List ℕ) (rows : List HostOf) (play : PlayOf) (size : Option ℕ) → learnt_by rows ≡ learnt_by s.rows
    → learnt_by (option_map_or (opened_by s n batch sizes rows play) size s).rows ≡ learnt_by s.rows
opened_knows s n batch sizes rows play None e = refl
opened_knows s n batch sizes rows play (Some size) e = joined_know play.tree size rows ∙ e

goes_on_knows : (s : State) (found : Option PlayOf) → learnt_by (option_map_or (goes_on s) found s).rows ≡ learnt_by s.rows
goes_on_knows s None = refl
goes_on_knows s (Some play) = opened_knows s s.play (s.batch + 1) s.sizes_left s.rows play (slice_get s.sizes_left 0) refl

begins_knows : (s : State) (n : ℕ) (found : Option PlayOf) → learnt_by (option_map_or (begins s n) found s).rows ≡ learnt_by s.rows
begins_knows s n None = refl
begins_knows s n (Some play) =
    let sizes = batch_sizes play.serial (play_host_count play.hosts s.rows) in
    opened_knows s n 0 sizes (map (as_play_begins play.hosts) s.rows) play (slice_get sizes 0) (map_knows (as_play_begins play.hosts) (λ row. refl) s.rows)

next_begins_knows : (plan : PlanOf) (s : State) (next : Option ℕ) → learnt_by (option_map_or (begins_at plan s) next s).rows ≡ learnt_by s.rows
next_begins_knows plan s None = refl
next_begins_knows plan s (Some n) = begins_knows s n (slice_get plan.plays n)

open_knows : (plan : PlanOf) (s : State) (b : Bool) (found : Option PlayOf) (next : Option ℕ)
    → learnt_by (if b then option_map_or (goes_on s) found s else option_map_or (begins_at plan s) next s).rows ≡ learnt_by s.rows
open_knows plan s true found next = goes_on_knows s found
open_knows plan s false found next = next_begins_knows plan s next

halted_knows : (row : HostOf) (b : Bool) → (if b then answered (plain_answer kinds.Halted) row else row).facts ≡ row.facts
halted_knows row true = refl
halted_knows row false = refl

halts_know : (batch : BatchOf) (b : Bool) → learnt_by (if b then record { rows = map halted batch.rows; sizes_left = [] } else batch).rows ≡ learnt_by batch.rows
halts_know batch true = map_knows halted (λ row. halted_knows row (may_be_halted row)) batch.rows
halts_know batch false = refl

-- what another host did for all teaches nothing where the task teaches nothing
copied_knows : (inventory : InventoryOf) (play : PlayOf) (p : ℕ) (finish : LastTask) (row : HostOf) (b : Bool) → teaches_nothing_at play p ≡ true
    → (if b then copied inventory play p finish row else row).facts ≡ row.facts
copied_knows inventory play p finish row true e =
    facts_after_none inventory play p None (task_at play p finish.items).result (result_of (variable_at play p) finish.items) finish.items row.facts e
copied_knows inventory play p finish row false e = refl

last_knows : (inventory : InventoryOf) (play : PlayOf) (p : ℕ) (row : HostOf) (last : Option LastTask) → teaches_nothing_at play p ≡ true
    → (option_map_or (copied_if inventory play p row) last row).facts ≡ row.facts
last_knows inventory play p row None e = refl
last_knows inventory play p row (Some finish) e = copied_knows inventory play p finish row (is_at p row) e

copy_knows : (inventory : InventoryOf) (play : PlayOf) (p : ℕ) (from : Option HostOf) (row : HostOf) → teaches_nothing_at play p ≡ true → (with_copy inventory play p from row).facts ≡ row.facts
copy_knows inventory play p None row e = refl
copy_knows inventory play p (Some from) row e = last_knows inventory play p row from.last e

copies_know : (inventory : InventoryOf) (play : PlayOf) (p : ℕ) (rows : List HostOf) (once : Bool) → (not once || teaches_nothing_at play p) ≡ true
    → learnt_by (map (with_copy inventory play p (if once then run_once_host p rows else None)) rows) ≡ learnt_by rows
copies_know inventory play p rows true e = map_knows (with_copy inventory play p (run_once_host p rows)) (λ row. copy_knows inventory play p (run_once_host p rows) row e) rows
copies_know inventory play p rows false e = map_knows (with_copy inventory play p None) (λ row. refl) rows

turned_knows : (inventory : InventoryOf) (play : PlayOf) (batch : BatchOf) (place : Option ℕ) → option_map_or (turn_keeps_at play) place true ≡ true
    → learnt_by (turned_by inventory play batch place).rows ≡ learnt_by batch.rows
turned_knows inventory play batch None e = refl
turned_knows inventory play batch (Some p) e =
    halts_know (copies inventory play p batch) (is_halting play p (copies inventory play p batch).rows)
    ∙ copies_know inventory play p batch.rows (runs_once_at play p) e

turn_knows : (plan : PlanOf) (s : State) (found : Option PlayOf) → option_map_or (turn_keeps s) found true ≡ true → learnt_by (option_map_or (turned_in plan.inventory s) found s).rows ≡ learnt_by s.rows
turn_knows plan s None e = refl
turn_knows plan s (Some play) e = turned_knows plan.inventory play (batch_of s) s.place e

pub knows_same : (plan : PlanOf) (s : State) (event : Event) → keeps_facts plan s event ≡ true → learnt_by (after plan s event).rows ≡ learnt_by s.rows
knows_same plan s Open e = open_knows plan s (has_batch_left s.sizes_left) (slice_get plan.plays s.play) (next_play plan s)
knows_same plan s (Start h) e = started_knows plan s h.0 (open_play plan s) e
knows_same plan s (Send h item attempt ticket) e = sent_knows s h.0 ticket (open_play plan s)
knows_same plan s (Reported r) e = came_knows plan s r (open_play plan s) e
knows_same plan s Turn e = turn_knows plan s (open_play plan s) e
knows_same plan s Close e = map_knows left (λ row. refl) s.rows
knows_same plan s Stop e = refl
knows_same plan s (Forks n) e = refl

-- what is kept stays what would be made
pub stays_known : (plan : PlanOf) (s : State) (event : Event) (known : Option (List (List ℕ × Datum))) → keeps_facts plan s event ≡ true → IsKnown plan s known → IsKnown plan (after plan s event) known
stays_known plan s event None e k = tt
stays_known plan s event (Some hosts) e k =
    k ∙ sym (ap (λ (all : List FactsOf). hosts_magic (hostvars plan.inventory plan.extra all)) (knows_same plan s event e))
