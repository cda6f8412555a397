-- Each event of an open batch leaves less to do: a start, a send, a report and a turn.
use Rattle.std.proofs.Common.{◌≡◌, ℕ, zero, suc, ◌+◌, ◌-◌, ◌*◌, ◌<◌, ◌≤◌, Bool, true, false, ◌&&◌, not, List, [], ◌∷◌, length, map, refl, sym, ◌∙◌, ap, subst, arith, inl, inr, suc-mul}
use Rattle.std.specs.Prelude.{Option, Some, None, option_map, slice_get, sum_by, is_some, is_none, ◌==◌, if◌then◌else◌, ◌||◌}
use Rattle.std.specs.List.{list_any}
use Rattle.std.specs.Option.{option_map_or}
use Rattle.std.proofs.lemmas.List.Sums.{sum_by-cons}
use Rattle.std.proofs.lemmas.Bool.{eq-eqb}
use Rattle.pb_ids.specs.declared.numbers.Ticket.{Ticket}
use Rattle.pb_outcome.specs.declared.job.Report.{Report}
use Rattle.pb_outcome.specs.declared.outcome.Form.{Form}
use Rattle.pb_facts.specs.Facts.{FactsOf}
use Rattle.pb_task_vars.specs.FromItems.{max_items}
use Rattle.pb_task_vars.specs.Results.{items_at}
use Rattle.pb_task_vars.proofs.FewItems.{few_items}
use Rattle.pb_host.specs.declared.step_result.StepResult.{StepResult}
use Rattle.pb_host.specs.declared.step_result.TaskEnd.{TaskEnd}
use Rattle.pb_outcome.specs.declared.item.Item.{Item}
use Rattle.pb_outcome.specs.Items.{is_over}
use Rattle.pb_tree.specs.declared.answer.Kind.{Kind}
use Rattle.pb_tree.specs.declared.answer.Kind.TheVariants as kinds
use Rattle.pb_tree.specs.Walk.{reach, is_halted}
use Rattle.pb_host.specs.declared.host.Running.{Running}
use Rattle.pb_host.specs.declared.host.LastTask.{LastTask}
use Rattle.pb_inventory.specs.InventoryOf.{InventoryOf}
use Rattle.pb_plan.specs.Plan.{PlayOf, PlanOf}
use Rattle.pb_host.specs.Handlers.{notified_by}
use Rattle.pb_host.specs.Host.{HostOf, next_place, answered, finished, finish_at, ended, task_at, facts_after, came_back, items_after, progressed, sent, sent_running, reported, reported_running, is_at}
use Rattle.pb_state.specs.State.{State}
use Rattle.pb_task_vars.specs.declared.gifts.DelegatedFacts.{DelegatedFacts}
use Rattle.pb_host.specs.Runs.{is_running, is_ticket, is_item, sends_running, may_send_item, awaits_running, awaits}
use Rattle.pb_hosts.specs.Giving.{takes, with_delegated, gifts_at, report_gives}
use Rattle.pb_hosts.specs.Hosts.{change, at_row, least_place}
use Rattle.pb_state.specs.Machine.{open_play, same_place, may_start_in, may_turn_in, started_in, next_at, facts_at, plan_seen, start_at, batch_of, turned_in, may_send_in, may_report_in, sent_in, reported_in}
use Rattle.pb_host.specs.Attempts.{rank}
use Rattle.pb_host.specs.Ends.{plain_answer, ends_run_once}
use Rattle.pb_hosts.specs.Turn.{BatchOf, ends_run_once_at, source, copied, copied_if, with_copy, copies, is_halting, halted, turned, turned_by}
use Rattle.pb_state.specs.Work.{most_events, places_left, place_work, out_work, running_work, row_work, batch_work, rest_work, turn_work, is_place, work_in, work}
use Rattle.pb_hosts.proofs.Giving.{given_sum, length-given}
use Rattle.pb_host.proofs.InOrder.{is_next_so, length_back, back_ranks}
use Rattle.pb_state.proofs.NextAttempt.{next_below}
use Rattle.pb_state.proofs.Idle.{lesser_is, turn_does_run_once, turn_place, turn_idle}
use Rattle.pb_state.proofs.Stands.{stands_at, start_stands}
use Rattle.pb_state.proofs.Steps.{length-change}
use Rattle.pb_hosts.proofs.Turning.{Goes, IsGiven, copy_goes, halted_goes, turned_by_case, later_fewer, turned_hosts}
use Rattle.pb_state.proofs.Walked.{at_below, one_more, no_less, stands_below, one_halted_answer, same_is, place_at}

pub and_left : (a b : Bool) → (a && b) ≡ true → a ≡ true
and_left true b e = refl
and_left false b e = cc

pub and_right : (a b : Bool) → (a && b) ≡ true → b ≡ true
and_right true b e = e
and_right false b e = cc

pub not_false : (b : Bool) → not b ≡ true → b ≡ false
not_false true e = cc
not_false false e = refl

-- a finished task is one answer more
finished_at : (row : HostOf) (finish : LastTask) (task : TaskEnd) (notified : List ℕ) (facts : FactsOf) (next : Option ℕ) → place_work (finished finish task notified facts row) next ≤ most_events * (places_left row - 1)
finished_at row finish task notified facts None = omega arith
finished_at row finish task notified facts (Some q) = omega (arith, one_halted_answer row.answers task notified)

finished_less : (row : HostOf) (finish : LastTask) (task : TaskEnd) (notified : List ℕ) (facts : FactsOf) → row_work (finished finish task notified facts row) ≤ most_events * (places_left row - 1)
finished_less row finish task notified facts = finished_at row finish task notified facts (next_place (finished finish task notified facts row))

-- a start
pub with_more : (a b c : ℕ) → a ≤ b → a ≤ c + b
with_more a b c e = omega (arith, e)

progressed_less : (inventory : InventoryOf) (play : PlayOf) (p : ℕ) (items : List Item) (row : HostOf) → row_work (progressed inventory play p items row) ≤ 2 * (101 * length items - rank items) + most_events * (places_left row - 1)
progressed_less inventory play p items row = by_over (is_over items)
  where
    by_over : (over : Bool) → row_work (if over then ended inventory play p items row else record row { running = Some (record { place = p; items = items; out = None }) })
        ≤ 2 * (101 * length items - rank items) + most_events * (places_left row - 1)
    by_over true =
        with_more (row_work (ended inventory play p items row)) (most_events * (places_left row - 1)) (2 * (101 * length items - rank items))
        (finished_less row (finish_at play p items) (task_at play p items) (notified_by play p (task_at play p items)) (facts_after inventory play p (Some row.host) items row.facts))
    by_over false = omega arith

not_running : (row : HostOf) (running : Option Running) → not (is_some running) ≡ true → running_work row running ≡ place_work row (next_place row)
not_running row None e = refl
not_running row (Some r) e = cc

start_falls : (new old left n : ℕ) → new ≤ 2 * n + most_events * (left - 1) → old ≡ most_events * left → n ≤ 101 * max_items → 0 < left → new < old
start_falls new old left n a b c d = omega (arith, a, b, c, d)

start_less : (place : Option ℕ) (inventory : InventoryOf) (play : PlayOf) (p : ℕ) (items : List Item) (row : HostOf) → length items ≤ max_items → stands_at place row ≡ true → row_work (progressed inventory play p items row) < row_work row
start_less place inventory play p items row most e =
    let stood = same_is (next_place row) place (and_right (not (is_running row)) _ e) in
    let idle : row_work row ≡ place_work row (next_place row) = not_running row row.running (and_left (not (is_running row)) _ e) in
    let now : place_work row (next_place row) ≡ most_events * places_left row = ap (place_work row) stood.1 in
    start_falls (row_work (progressed inventory play p items row)) (row_work row) (places_left row) (101 * length items - rank items) (progressed_less inventory play p items row) (idle ∙ now) (omega (arith, most)) (omega (arith, stands_below place row e))

-- a send
none_out : (out : Option Ticket) → is_none out ≡ true → out_work out ≡ 0
none_out None e = refl
none_out (Some ticket) e = cc

sending : (item attempt : ℕ) (ticket : Ticket) (row : HostOf) (running : Option Running) → option_map_or (sends_running item attempt) running false ≡ true → running_work (sent ticket row) (option_map (sent_running ticket) running) < running_work row running
sending item attempt ticket row None e = cc
sending item attempt ticket row (Some r) e =
    omega (arith, none_out r.out (and_left (is_none r.out) _ e), next_below item attempt r (and_right (is_none r.out) _ e))

send_less : (item attempt : ℕ) (ticket : Ticket) (row : HostOf) → may_send_item item attempt row ≡ true → row_work (sent ticket row) < row_work row
send_less item attempt ticket row e = sending item attempt ticket row row.running e

-- a report
out_one : (ticket : Ticket) (out : Option Ticket) → is_ticket ticket out ≡ true → out_work out ≡ 1
out_one ticket None e = cc
out_one ticket (Some t) e = refl

report_falls : (new old left n m out : ℕ) → new ≤ 2 * m + most_events * (left - 1) → old ≡ 2 * n - out + most_events * (left - 1) → out ≡ 1 → m < n → new < old
report_falls new old left n m out a b c d = omega (arith, a, b, c, d)

reporting : (plan : PlanOf) (play : PlayOf) (outcome : Form) (ticket : Ticket) (item attempt : ℕ) (row : HostOf) (running : Option Running) → option_map_or (awaits_running ticket item attempt) running false ≡ true → row_work (option_map_or (reported_running plan play outcome row) running row) < running_work row running
reporting plan play outcome ticket item attempt row None e = cc
reporting plan play outcome ticket item attempt row (Some r) e =
    let first = is_next_so item r.items (and_left (is_item item r.items) _ (and_right (is_ticket ticket r.out) _ e)) in
    let same : length (items_after plan play row.host row.facts outcome r) ≡ length r.items = length_back (came_back plan play row.host row.facts r.place outcome) r.items in
    let sizes_left : rank r.items + 1 ≤ rank (items_after plan play row.host row.facts outcome r) =
    back_ranks (came_back plan play row.host row.facts r.place outcome) r.items (omega (arith, first.0, first.1)) in
    report_falls (row_work (progressed plan.inventory play r.place (items_after plan play row.host row.facts outcome r) row)) (running_work row (Some r)) (places_left row) (101 * length r.items - rank r.items)
    (101 * length (items_after plan play row.host row.facts outcome r) - rank (items_after plan play row.host row.facts outcome r)) (out_work r.out)
    (progressed_less plan.inventory play r.place (items_after plan play row.host row.facts outcome r) row) refl
    (out_one ticket r.out (and_left (is_ticket ticket r.out) _ e)) (omega (arith, same, sizes_left, next_below item attempt r (and_right (is_ticket ticket r.out) _ e)))

report_less : (plan : PlanOf) (play : PlayOf) (outcome : Form) (ticket : Ticket) (item attempt : ℕ) (row : HostOf) → awaits ticket item attempt row ≡ true → row_work (reported plan play outcome row) < row_work row
report_less plan play outcome ticket item attempt row e = reporting plan play outcome ticket item attempt row row.running e

abbrev one_if : Bool → ℕ
one_if b = if b then 1 else 0

-- one row changed
change_on : (row : HostOf) (rows : List HostOf) (h : ℕ) (f : HostOf → HostOf) (found : Option HostOf) → slice_get rows h ≡ found → change (row ∷ rows) (suc h) f ≡ row ∷ change rows h f
change_on row rows h f None e = rw e refl
change_on row rows h f (Some r) e = rw e refl

change_less : (w : HostOf → ℕ) (f : HostOf → HostOf) (test : HostOf → Bool) → ((row : HostOf) → test row ≡ true → w (f row) < w row) → (rows : List HostOf) (h : ℕ) → at_row test rows h ≡ true → sum_by w (change rows h f) < sum_by w rows
change_less w f test less [] h e = cc
change_less w f test less (row ∷ rows) zero e = let one = less row e in omega (arith, one, sum_by-cons w (f row) rows, sum_by-cons w row rows)
change_less w f test less (row ∷ rows) (suc h) e =
    let rest = change_less w f test less rows h e in
    rw (change_on row rows h f (slice_get rows h) refl) (omega (arith, rest, sum_by-cons w row (change rows h f), sum_by-cons w row rows))

pub turn_work_at_most : (p q : Option ℕ) → turn_work p q ≤ 1
turn_work_at_most p q = at_most (is_place p q)
  where
    at_most : (b : Bool) → (if b then 0 else 1) ≤ 1
    at_most true = omega arith
    at_most false = omega arith

place_same : (p : Option ℕ) → is_place p p ≡ true
place_same None = refl
place_same (Some p) = eq-eqb p p refl

no_turn : (p : Option ℕ) → turn_work p p ≡ 0
no_turn p = rw (place_same p) refl

-- what hosts are given leaves their work as it is
takes_place : (gift : DelegatedFacts) (row : HostOf) (next : Option ℕ) → place_work (takes gift row) next ≡ place_work row next
takes_place gift row None = refl
takes_place gift row (Some p) = refl

takes_running : (gift : DelegatedFacts) (row : HostOf) (running : Option Running) → running_work (takes gift row) running ≡ running_work row running
takes_running gift row None = takes_place gift row (next_place row)
takes_running gift row (Some r) = refl

takes_work : (gift : DelegatedFacts) (row : HostOf) → row_work (takes gift row) ≡ row_work row
takes_work gift row = takes_running gift row row.running

-- an event that changes one row of the open batch, and gives something to other hosts
row_event : (plan : PlanOf) (s : State) (play : PlayOf) (gifts : List DelegatedFacts) (h sends : ℕ) (begun : List Bool) (step_result : Option StepResult) (f : HostOf → HostOf) (test : HostOf → Bool) → open_play plan s ≡ Some play → ((row : HostOf) → test row ≡ true → row_work (f row) < row_work row) → at_row test s.rows h ≡ true → work plan (record s { rows = with_delegated gifts (change s.rows h f); begun = begun; sends = sends; step_result = step_result }) < work plan s
row_event plan s play gifts h sends begun step_result f test o less e =
    let rows = change_less (row_work) f test less s.rows h e in
    let given = given_sum row_work takes_work gifts (change s.rows h f) in
    let turn = turn_work_at_most s.place (least_place (with_delegated gifts (change s.rows h f))) in
    let same : rest_work plan (length (with_delegated gifts (change s.rows h f))) s.sizes_left s.play play ≡ rest_work plan (length s.rows) s.sizes_left s.play play =
    ap (λ (n : ℕ). rest_work plan n s.sizes_left s.play play) (length-given gifts (change s.rows h f) ∙ length-change s.rows h f) in
    let old : work plan s ≡ work_in plan s (Some play) = ap (work_in plan s) o in
    let changed : State = record s { rows = with_delegated gifts (change s.rows h f); begun = begun; sends = sends; step_result = step_result } in
    let new : work plan changed ≡ work_in plan changed (Some play) = ap (work_in plan changed) o in
    omega (arith, rows, given, turn, same, old, new)

none_same : (a : Option ℕ) → same_place a None ≡ false
none_same (Some p) = refl
none_same None = refl

none_stands_at : (row : HostOf) → stands_at None row ≡ true → ⊥
none_stands_at row e =
    let same = and_right (not (is_running row)) _ e in
    let no = none_same (next_place row) in cc

none_at : (rows : List HostOf) (h : ℕ) → at_row (stands_at None) rows h ≡ true → ⊥
none_at [] h e = cc
none_at (row ∷ rows) zero e = none_stands_at row e
none_at (row ∷ rows) (suc h) e = none_at rows h e

start_at_less : (plan : PlanOf) (s : State) (h : ℕ) (play : PlayOf) (place : Option ℕ) → open_play plan s ≡ Some play → at_row (stands_at place) s.rows h ≡ true → work plan (option_map_or (start_at plan s h play) place s) < work plan s
start_at_less plan s h play None o e = absurd (none_at s.rows h e)
start_at_less plan s h play (Some p) o e =
    row_event plan s play (gifts_at plan.inventory play p h (items_at (plan_seen plan s) play h (facts_at s h) p)) h s.sends (start_at plan s h play p).begun (start_at plan s h play p).step_result (progressed plan.inventory play p (items_at (plan_seen plan s) play h (facts_at s h) p)) (stands_at (Some p)) o
    (λ row may. start_less (Some p) plan.inventory play p (items_at (plan_seen plan s) play h (facts_at s h) p) row (few_items (plan_seen plan s) play h (facts_at s h) p) may) e

pub start_in_less : (plan : PlanOf) (s : State) (h : ℕ) (found : Option PlayOf) → open_play plan s ≡ found → option_map_or (may_start_in s h) found false ≡ true → work plan (option_map_or (started_in plan s h) found s) < work plan s
start_in_less plan s h None o e = cc
start_in_less plan s h (Some play) o e = start_at_less plan s h play (next_at s h) o (start_stands s h play e)

pub send_in_less : (plan : PlanOf) (s : State) (h item attempt : ℕ) (ticket : Ticket) (found : Option PlayOf) → open_play plan s ≡ found → option_map_or (may_send_in s h item attempt ticket) found false ≡ true → work plan (option_map_or (sent_in s h ticket) found s) < work plan s
send_in_less plan s h item attempt ticket None o e = cc
send_in_less plan s h item attempt ticket (Some play) o e =
    row_event plan s play [] h (s.sends + 1) s.begun None (sent ticket) (may_send_item item attempt) o (λ row may. send_less item attempt ticket row may) (and_right (not s.stopped && (ticket.0 == s.sends)) _ e)

pub report_in_less : (plan : PlanOf) (s : State) (r : Report) (found : Option PlayOf) → open_play plan s ≡ found → option_map_or (may_report_in s r) found false ≡ true → work plan (option_map_or (reported_in plan s r) found s) < work plan s
report_in_less plan s r None o e = cc
report_in_less plan s r (Some play) o e =
    row_event plan s play (report_gives (plan_seen plan s) play r.outcome r.host.0 s.rows) r.host.0 s.sends s.begun (reported_in plan s r play).step_result (reported (plan_seen plan s) play r.outcome) (awaits r.ticket r.item r.attempt) o (λ row may. report_less (plan_seen plan s) play r.outcome r.ticket r.item r.attempt row may) e

-- a turn
is_place_some : (p q : Option ℕ) (r : ℕ) → p ≡ Some r → is_place p q ≡ true → q ≡ Some r
is_place_some (Some p) q r e s = let same = same_is (Some p) q s in same.2 ∙ (sym same.1 ∙ e)
is_place_some None q r e s = cc

is_some_some : (p : Option ℕ) → is_some p ≡ true → (r : ℕ) × (p ≡ Some r)
is_some_some (Some r) e = (r, refl)
is_some_some None e = cc

-- an answer that a host is given leaves no more of its work
given_place : (row : HostOf) (kind : Kind) (broken : Bool) (facts : FactsOf) (next : Option ℕ) → place_work (record (answered (plain_answer kind) row) { is_broken = broken; facts = facts }) next ≤ most_events * places_left row
given_place row kind broken facts None = omega arith
given_place row kind broken facts (Some q) = omega (arith, no_less row.answers (plain_answer kind))

given_running : (row : HostOf) (p : ℕ) (kind : Kind) (broken : Bool) (facts : FactsOf) (running : Option Running) → next_place row ≡ Some p
    → running_work (record (answered (plain_answer kind) row) { is_broken = broken; facts = facts }) running ≤ running_work row running
given_running row p kind broken facts None e =
    let old : place_work row (next_place row) ≡ most_events * places_left row = ap (place_work row) e in
    omega (arith, old, given_place row kind broken facts (next_place (record (answered (plain_answer kind) row) { is_broken = broken; facts = facts })))
given_running row p kind broken facts (Some r) e = omega (arith, no_less row.answers (plain_answer kind))

given_work : (row new : HostOf) → IsGiven row new → row_work new ≤ row_work row
given_work row new given = rw given.is (given_running row given.place given.kind given.broken given.facts row.running given.next)

goes_work : (f : HostOf → HostOf) → Goes f → (row : HostOf) → row_work (f row) ≤ row_work row
goes_work f goes row = elim (goes row) [ inl same ↦ rw same (omega arith) | inr given ↦ given_work row (f row) given ]

map_work : (f : HostOf → HostOf) → Goes f → (rows : List HostOf) → sum_by row_work (map f rows) ≤ sum_by row_work rows
map_work f goes [] = omega arith
map_work f goes (row ∷ rows) = omega (arith, goes_work f goes row, map_work f goes rows, sum_by-cons row_work (f row) (map f rows), sum_by-cons row_work row rows)

at_most : (a b c : ℕ) → a ≤ b → b ≤ c → a ≤ c
at_most a b c e f = omega (arith, e, f)

turned_work : (inventory : InventoryOf) (play : PlayOf) (batch : BatchOf) (place : Option ℕ) → sum_by row_work (turned_by inventory play batch place).rows ≤ sum_by row_work batch.rows
turned_work inventory play batch place =
    turned_by_case (λ (rows : List HostOf). sum_by row_work rows ≤ sum_by row_work batch.rows)
    (λ f goes rows least. at_most (sum_by row_work (map f rows)) (sum_by row_work rows) (sum_by row_work batch.rows) (map_work f goes rows) least)
    inventory play batch place (omega arith)

-- where a task is done for all, an answer less is left to each host there
run_once_end_counts : (kind : Kind) → ends_run_once kind ≡ true → is_halted kind ≡ false
run_once_end_counts kinds.Good e = refl
run_once_end_counts kinds.Bad e = refl
run_once_end_counts kinds.Halted e = cc
run_once_end_counts kinds.Gone e = refl
run_once_end_counts kinds.Ended e = refl

run_once_last : (p : ℕ) (last : Option LastTask) → option_map_or (ends_run_once_at p) last false ≡ true → (finish : LastTask) × (last ≡ Some finish) × (is_halted finish.kind ≡ false)
run_once_last p (Some finish) e = (finish, refl, run_once_end_counts finish.kind (and_right (finish.place == p) _ e))
run_once_last p None e = cc

copied_place : (inventory : InventoryOf) (play : PlayOf) (p : ℕ) (finish : LastTask) (row : HostOf) (next : Option ℕ) → is_halted finish.kind ≡ false
    → place_work (copied inventory play p finish row) next ≤ most_events * (places_left row - 1)
copied_place inventory play p finish row None k = omega arith
copied_place inventory play p finish row (Some q) k = omega (arith, one_more row.answers (plain_answer finish.kind) k)

copied_running : (inventory : InventoryOf) (play : PlayOf) (p : ℕ) (finish : LastTask) (row : HostOf) (running : Option Running) → is_halted finish.kind ≡ false → next_place row ≡ Some p → is_some running ≡ false
    → running_work (copied inventory play p finish row) running < running_work row running
copied_running inventory play p finish row None k e idle =
    let old : place_work row (next_place row) ≡ most_events * places_left row = ap (place_work row) e in
    let below = at_below row.tree row.answers p (place_at (reach row.tree row.answers) row.in_batch p e) in
    omega (arith, old, below, copied_place inventory play p finish row (next_place (copied inventory play p finish row)) k)
copied_running inventory play p finish row (Some r) k e idle = cc

with_copy_is : (inventory : InventoryOf) (play : PlayOf) (p : ℕ) (from : HostOf) (finish : LastTask) (row : HostOf) → from.last ≡ Some finish → next_place row ≡ Some p
    → with_copy inventory play p (Some from) row ≡ copied inventory play p finish row
with_copy_is inventory play p from finish row l e =
    let here : is_at p row ≡ true = ap (λ (next : Option ℕ). option_map_or (λ q. q == p) next false) e ∙ eq-eqb p p refl in
    ap (λ (last : Option LastTask). option_map_or (copied_if inventory play p row) last row) l ∙ ap (λ (b : Bool). if b then copied inventory play p finish row else row) here

copy_less : (inventory : InventoryOf) (play : PlayOf) (p : ℕ) (from : HostOf) (finish : LastTask) (row : HostOf) → from.last ≡ Some finish → is_halted finish.kind ≡ false → next_place row ≡ Some p → is_running row ≡ false
    → row_work (with_copy inventory play p (Some from) row) < row_work row
copy_less inventory play p from finish row l k e idle = rw (with_copy_is inventory play p from finish row l e) (copied_running inventory play p finish row row.running k e idle)

or_left : (a b : Bool) → (a || b) ≡ false → a ≡ false
or_left true b e = e
or_left false b e = refl

or_right : (a b : Bool) → (a || b) ≡ false → b ≡ false
or_right true b e = cc
or_right false b e = e

copies_less : (inventory : InventoryOf) (play : PlayOf) (p : ℕ) (from : HostOf) (finish : LastTask) (rows : List HostOf) → from.last ≡ Some finish → is_halted finish.kind ≡ false → list_any is_running rows ≡ false → least_place rows ≡ Some p
    → sum_by row_work (map (with_copy inventory play p (Some from)) rows) < sum_by row_work rows
copies_less inventory play p from finish [] l k idle e = cc
copies_less inventory play p from finish (row ∷ rows) l k idle e =
    let sums = sum_by-cons row_work (with_copy inventory play p (Some from) row) (map (with_copy inventory play p (Some from)) rows) in
    let copies_on = copy_goes inventory play p (Some from) in
    elim (lesser_is (next_place row) (least_place rows) p e) [
      | inl here ↦ omega (arith, sums, sum_by-cons row_work row rows, copy_less inventory play p from finish row l k here (or_left (is_running row) _ idle), map_work (with_copy inventory play p (Some from)) copies_on rows)
      | inr there ↦
          omega (arith, sums, sum_by-cons row_work row rows, goes_work (with_copy inventory play p (Some from)) copies_on row, copies_less inventory play p from finish rows l k (or_right (is_running row) _ idle) there)
    ]

turned_less : (inventory : InventoryOf) (play : PlayOf) (p : ℕ) (batch : BatchOf) (from : HostOf) (finish : LastTask) → source play p batch.rows ≡ Some from → from.last ≡ Some finish → is_halted finish.kind ≡ false
    → list_any is_running batch.rows ≡ false → least_place batch.rows ≡ Some p → sum_by row_work (turned inventory play p batch).rows < sum_by row_work batch.rows
turned_less inventory play p batch from finish is l k idle e = by_halting (is_halting play p (copies inventory play p batch).rows)
  where
    first : sum_by row_work (copies inventory play p batch).rows < sum_by row_work batch.rows
    first =
        subst (λ (found : Option HostOf). sum_by row_work (map (with_copy inventory play p found) batch.rows) < sum_by row_work batch.rows) (sym is)
        (copies_less inventory play p from finish batch.rows l k idle e)

    by_halting : (b : Bool) → sum_by row_work (if b then record { rows = map halted (copies inventory play p batch).rows; sizes_left = [] } else copies inventory play p batch).rows < sum_by row_work batch.rows
    by_halting true = omega (arith, first, map_work halted halted_goes (copies inventory play p batch).rows)
    by_halting false = first

-- so a turn leaves less to the rows, or to be turned
turn_falls : (inventory : InventoryOf) (s : State) (play : PlayOf) (b : Bool) → 0 < s.forks → may_turn_in s play ≡ true → is_place s.place (least_place s.rows) ≡ b
    → 2 * sum_by row_work (turned_by inventory play (batch_of s) s.place).rows < 2 * sum_by row_work s.rows + turn_work s.place (least_place s.rows)
turn_falls inventory s play false f e t =
    let due : turn_work s.place (least_place s.rows) ≡ 1 = rw t refl in
    omega (arith, due, turned_work inventory play (batch_of s) s.place)
turn_falls inventory s play true f e t =
    let at = is_some_some s.place (turn_place s play e) in
    let least = is_place_some s.place (least_place s.rows) at.0 at.1 t in
    let from = turn_does_run_once s play at.0 f e at.1 least in
    let last = run_once_last at.0 from.0.last from.2 in
    let less = turned_less inventory play at.0 (batch_of s) from.0 last.0 from.1 last.1 last.2 (turn_idle s play e) least in
    let there : sum_by row_work (turned_by inventory play (batch_of s) s.place).rows < sum_by row_work s.rows =
    subst (λ (place : Option ℕ). sum_by row_work (turned_by inventory play (batch_of s) place).rows < sum_by row_work s.rows) (sym at.1) less in
    omega (arith, there)

-- one batch fewer is left
fewer_times : (w k a : ℕ) → a * w ≤ (k + a) * w
fewer_times w zero a = let same : 0 + a ≡ a = omega arith in rw same (omega arith)
fewer_times w (suc k) a =
    let rest = fewer_times w k a in
    let one : suc k + a ≡ suc (k + a) = omega arith in
    rw one (omega (arith, rest, suc-mul (k + a) w))

pub times : (w a b : ℕ) → a ≤ b → a * w ≤ b * w
times w a b l = let at : (b - a) + a ≡ b = omega (arith, l) in rw at at (fewer_times w (b - a) a)

-- and no more behind the batch
turn_rest : (plan : PlanOf) (s : State) (play : PlayOf) (batch : BatchOf) → length batch.rows ≡ length s.rows → length batch.sizes_left ≤ length s.sizes_left
    → rest_work plan (length batch.rows) batch.sizes_left s.play play ≤ rest_work plan (length s.rows) s.sizes_left s.play play
turn_rest plan s play batch hosts sizes_left =
    let same : rest_work plan (length batch.rows) batch.sizes_left s.play play ≡ rest_work plan (length s.rows) batch.sizes_left s.play play = ap (λ (n : ℕ). rest_work plan n batch.sizes_left s.play play) hosts in
    omega (arith, same, times (batch_work (length s.rows) play) (length batch.sizes_left) (length s.sizes_left) sizes_left)

pub turn_in_less : (plan : PlanOf) (s : State) (found : Option PlayOf) → 0 < s.forks → open_play plan s ≡ found → option_map_or (may_turn_in s) found false ≡ true → work plan (option_map_or (turned_in plan.inventory s) found s) < work plan s
turn_in_less plan s None f o e = cc
turn_in_less plan s (Some play) f o e =
    let batch = turned_by plan.inventory play (batch_of s) s.place in
    let rows = turn_falls plan.inventory s play (is_place s.place (least_place s.rows)) f e refl in
    let rest = turn_rest plan s play batch (turned_hosts plan.inventory play (batch_of s) s.place) (later_fewer plan.inventory play (batch_of s) s.place) in
    let old : work plan s ≡ work_in plan s (Some play) = ap (work_in plan s) o in
    let new : work plan (turned_in plan.inventory s play) ≡ work_in plan (turned_in plan.inventory s play) (Some play) = ap (work_in plan (turned_in plan.inventory s play)) o in
    omega (arith, rows, rest, no_turn (least_place batch.rows), old, new)
