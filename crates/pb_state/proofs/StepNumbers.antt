-- A host's next step in a play has a number at least: no event takes it back behind that.
use Rattle.std.proofs.Common.{◌≡◌, ℕ, zero, suc, ◌+◌, ◌*◌, ◌≤◌, Bool, true, false, ◌&&◌, ◌||◌, not, List, [], ◌∷◌, ◌++◌, length, map, refl, sym, ◌∙◌, ap, arith, subst, inl, inr}
use Rattle.std.specs.Prelude.{Option, Some, None, option_map, slice_get, is_none, is_some, if◌then◌else◌}
use Rattle.std.specs.List.{list_any}
use Rattle.std.specs.Option.{option_map_or}
use Rattle.std.proofs.lemmas.Bool.{eqb-true}
use Rattle.pb_ids.specs.declared.numbers.Ticket.{Ticket}
use Rattle.pb_tree.specs.declared.answer.Kind.{Kind}
use Rattle.pb_tree.specs.declared.tree.Reach.{Reach}
use Rattle.pb_tree.specs.declared.tree.Reach.TheVariants.{At, Done}
use Rattle.pb_tree.specs.Tree.{TreeOf}
use Rattle.pb_tree.specs.Answer.{AnswerOf}
use Rattle.pb_tree.specs.Laws.{counts, IsAbove}
use Rattle.pb_tree.specs.Walk.{reach, is_halted}
use Rattle.pb_tree.proofs.Rise.{places_rise, second_passed}
use Rattle.pb_facts.specs.Facts.{FactsOf}
use Rattle.pb_outcome.specs.declared.item.Item.{Item}
use Rattle.pb_outcome.specs.declared.outcome.Form.{Form}
use Rattle.pb_outcome.specs.Items.{is_over}
use Rattle.pb_host.specs.declared.step_result.TaskEnd.{TaskEnd}
use Rattle.pb_host.specs.declared.host.LastTask.{LastTask}
use Rattle.pb_host.specs.declared.host.Running.{Running}
use Rattle.pb_inventory.specs.InventoryOf.{InventoryOf}
use Rattle.pb_plan.specs.Plan.{PlayOf, PlanOf}
use Rattle.pb_hosts.specs.Batches.{joins, room_behind, joined_first}
use Rattle.pb_host.specs.Host.{HostOf, place_of, next_place, answered, joined, left, finished, finish_at, ended, task_at, facts_after, came_back, items_after, progressed, sent, sent_running, reported, reported_running}
use Rattle.pb_host.specs.Ends.{kind_of, answer_of, plain_answer}
use Rattle.pb_host.specs.Handlers.{notified_by}
use Rattle.pb_host.specs.Attempts.{rank}
use Rattle.pb_task_vars.specs.declared.gifts.DelegatedFacts.{DelegatedFacts}
use Rattle.pb_host.specs.Runs.{is_running, is_ticket, is_item, sends_running, may_send_item, awaits_running, awaits}
use Rattle.pb_hosts.specs.Hosts.{change}
use Rattle.pb_hosts.specs.Giving.{takes, with_delegated}
use Rattle.pb_state.specs.Machine.{same_place}
use Rattle.pb_hosts.proofs.Giving.{given_keeps}
use Rattle.pb_host.proofs.InOrder.{rank_most, is_next_so, length_back, back_ranks}
use Rattle.pb_state.proofs.NextAttempt.{next_number}
use Rattle.pb_state.proofs.Stands.{stands_at}
use Rattle.pb_hosts.proofs.Turning.{Goes, goes_inside, goes_waits}
use Rattle.pb_state.proofs.Walked.{not_halted}
use Rattle.pb_state.specs.Once.{running_place}

pub and_left : (a b : Bool) → (a && b) ≡ true → a ≡ true
and_left true b e = refl
and_left false b e = cc

pub and_right : (a b : Bool) → (a && b) ≡ true → b ≡ true
and_right true b e = e
and_right false b e = cc

not_false : (b : Bool) → not b ≡ true → b ≡ false
not_false true e = cc
not_false false e = refl

or_left : (a b : Bool) → (a || b) ≡ false → a ≡ false
or_left true b e = e
or_left false b e = refl

or_right : (a b : Bool) → (a || b) ≡ false → b ≡ false
or_right true b e = cc
or_right false b e = e

-- ---- one host
-- The start at a place has the number 1010002 times that place, and the send of the attempt a at the item with the number i there the number
-- 101 * i + a more: a task has 10,000 items at most, and an item 101 attempts. A host's next step has at least the number n.
abbrev pub IsFrom : ℕ → Reach → Type 0
IsFrom n (At place) = n ≤ 1010002 * place
IsFrom n (Done ending) = Unit {0}

-- the next attempt's send comes next, or what is behind it
abbrev pub behind : Option Ticket → ℕ
behind None = 1
behind (Some ticket) = 2

abbrev pub RunsFrom : ℕ → HostOf → Option Running → Type 0
RunsFrom n row None = IsFrom n (reach row.tree row.answers)
RunsFrom n row (Some r) =
    (reach row.tree row.answers ≡ At r.place) × (n ≤ 1010002 * r.place + rank r.items + behind r.out) × (length r.items ≤ 10000) × (row.in_batch ≡ true)

abbrev pub RowFrom : ℕ → HostOf → Type 0
RowFrom n row = RunsFrom n row row.running

abbrev pub FoundFrom : ℕ → Option HostOf → Type 0
FoundFrom n None = Unit {0}
FoundFrom n (Some row) = RowFrom n row

-- a host whose batch has opened, if it is one of the play's hosts, and one that waits for none
abbrev pub FoundBegun : Option HostOf → Type 0
FoundBegun None = Unit {0}
FoundBegun (Some row) = (row.in_batch || not row.awaits_batch) ≡ true

abbrev pub FoundOut : Option HostOf → Type 0
FoundOut None = Unit {0}
FoundOut (Some row) = row.awaits_batch ≡ false

above_from : (n p : ℕ) (r : Reach) → IsAbove p r → n ≤ 1010002 * p + 1010002 → IsFrom n r
above_from n p (At place) a l = omega (arith, a, l)
above_from n p (Done ending) a l = tt

-- no task's answer is halted, so that each counts
all_count : (any halted : Bool) → halted ≡ false → not (any && halted) ≡ true
all_count true halted e = rw e refl
all_count false halted e = refl

answer_counts : (answers : List AnswerOf) (task : TaskEnd) (notified : List ℕ) → counts answers (answer_of task notified) ≡ true
answer_counts answers task notified = all_count (list_any (λ (b : AnswerOf). is_halted b.kind) answers) (is_halted (kind_of task)) (not_halted task)

finished_from : (n p : ℕ) (finish : LastTask) (task : TaskEnd) (notified : List ℕ) (facts : FactsOf) (row : HostOf) → reach row.tree row.answers ≡ At p → n ≤ 1010002 * p + 1010002
    → RowFrom n (finished finish task notified facts row)
finished_from n p finish task notified facts row e l =
    above_from n p (reach row.tree (row.answers ++ answer_of task notified ∷ [])) (places_rise row.tree row.answers (answer_of task notified) p e (answer_counts row.answers task notified)) l

pub progressed_from : (n p : ℕ) (inventory : InventoryOf) (play : PlayOf) (items : List Item) (row : HostOf) → reach row.tree row.answers ≡ At p → n ≤ 1010002 * p + rank items + 1 → length items ≤ 10000
    → row.in_batch ≡ true → RowFrom n (progressed inventory play p items row)
progressed_from n p inventory play items row e l few inside = by_over (is_over items)
  where
    by_over : (over : Bool) → RowFrom n (if over then ended inventory play p items row else record row { running = Some (record { place = p; items = items; out = None }) })
    by_over true = let most = rank_most items in finished_from n p (finish_at play p items) (task_at play p items) (notified_by play p (task_at play p items)) (facts_after inventory play p (Some row.host) items row.facts) row e (omega (arith, l, few, most))
    by_over false = (e, l, few, inside)

same_is : (a b : Option ℕ) → same_place a b ≡ true → (p : ℕ) × (a ≡ Some p) × (b ≡ Some p)
same_is (Some p) (Some q) e = (p, refl, ap Some (sym (eqb-true p q e)))
same_is (Some p) None e = cc
same_is None q e = cc

place_at : (r : Reach) (b : Bool) (p : ℕ) → (if b then place_of r else None) ≡ Some p → r ≡ At p
place_at (At q) true p e = ap At (let same : q ≡ p = cc in same)
place_at (Done ending) true p e = cc
place_at r false p e = cc

pub stands : (p : ℕ) (row : HostOf) → stands_at (Some p) row ≡ true → reach row.tree row.answers ≡ At p
stands p row e =
    let stood = same_is (next_place row) (Some p) (and_right (not (is_running row)) _ e) in
    let here : next_place row ≡ Some p = stood.1 ∙ sym stood.2 in
    place_at (reach row.tree row.answers) row.in_batch p here

-- the number of a start, and of a send
pub start_number : (n p : ℕ) (row : HostOf) → stands_at (Some p) row ≡ true → RowFrom n row → n ≤ 1010002 * p
start_number n p row e w = by_running row.running (not_false (is_running row) (and_left (not (is_running row)) _ e)) w
  where
    from_at : (r : Reach) → r ≡ At p → IsFrom n r → n ≤ 1010002 * p
    from_at (At q) f v = let same : q ≡ p = cc in omega (arith, v, same)
    from_at (Done ending) f v = cc

    by_running : (running : Option Running) → is_some running ≡ false → RunsFrom n row running → n ≤ 1010002 * p
    by_running None none v = from_at (reach row.tree row.answers) (stands p row e) v
    by_running (Some r) none v = cc

pub send_number : (n p item attempt : ℕ) (row : HostOf) → may_send_item item attempt row ≡ true → running_place row ≡ Some p → RowFrom n row → n ≤ 1010002 * p + 101 * item + attempt
send_number n p item attempt row e at w = by_running row.running e at w
  where
    by_out : (number : ℕ) (out : Option Ticket) → is_none out ≡ true → n ≤ number + behind out → n ≤ number + 1
    by_out number None none l = l
    by_out number (Some ticket) none l = cc

    by_running : (running : Option Running) → option_map_or (sends_running item attempt) running false ≡ true → option_map (λ (r : Running). r.place) running ≡ Some p → RunsFrom n row running → n ≤ 1010002 * p + 101 * item + attempt
    by_running None s a v = cc
    by_running (Some r) s a v =
        let same : r.place ≡ p = cc in
        let next = next_number item attempt r (and_right (is_none r.out) _ s) in
        let most = by_out (1010002 * r.place + rank r.items) r.out (and_left (is_none r.out) _ s) v.1 in
        omega (arith, most, same, next.0)

pub sent_from : (m n item attempt : ℕ) (ticket : Ticket) (row : HostOf) → may_send_item item attempt row ≡ true → ((p : ℕ) → running_place row ≡ Some p → n ≤ 1010002 * p + 101 * item + attempt + 1) → RowFrom m row → RowFrom n (sent ticket row)
sent_from m n item attempt ticket row e most w = by_running row.running e most w
  where
    by_running : (running : Option Running) → option_map_or (sends_running item attempt) running false ≡ true → ((p : ℕ) → option_map (λ (r : Running). r.place) running ≡ Some p → n ≤ 1010002 * p + 101 * item + attempt + 1) → RunsFrom m row running → RunsFrom n row (option_map (sent_running ticket) running)
    by_running None s k v = cc
    by_running (Some r) s k v =
        let next = next_number item attempt r (and_right (is_none r.out) _ s) in
        let most : n ≤ 1010002 * r.place + 101 * item + attempt + 1 = k r.place refl in
        (v.0, omega (arith, most, next.0), v.2, v.3)

behind_most : (out : Option Ticket) → behind out ≤ 2
behind_most None = omega arith
behind_most (Some ticket) = omega arith

-- the attempt that comes back is behind the host then
pub reported_from : (n : ℕ) (plan : PlanOf) (play : PlayOf) (outcome : Form) (ticket : Ticket) (item attempt : ℕ) (row : HostOf) → awaits ticket item attempt row ≡ true → RowFrom n row → RowFrom n (reported plan play outcome row)
reported_from n plan play outcome ticket item attempt row e w = by_running row.running e w
  where
    by_running : (running : Option Running) → option_map_or (awaits_running ticket item attempt) running false ≡ true → RunsFrom n row running → RowFrom n (option_map_or (reported_running plan play outcome row) running row)
    by_running None s v = cc
    by_running (Some r) s v =
        let first = is_next_so item r.items (and_left (is_item item r.items) _ (and_right (is_ticket ticket r.out) _ s)) in
        let sizes_left : rank r.items + 1 ≤ rank (items_after plan play row.host row.facts outcome r) =
        back_ranks (came_back plan play row.host row.facts r.place outcome) r.items (omega (arith, first.0, first.1)) in
        let same : length (items_after plan play row.host row.facts outcome r) ≡ length r.items = length_back (came_back plan play row.host row.facts r.place outcome) r.items in
        let most = behind_most r.out in
        progressed_from n r.place plan.inventory play (items_after plan play row.host row.facts outcome r) row v.0 (omega (arith, v.1, sizes_left, most)) (omega (arith, same, v.2)) v.3

-- ---- the rows
change_on : (row : HostOf) (rows : List HostOf) (h : ℕ) (f : HostOf → HostOf) (found : Option HostOf) → slice_get rows h ≡ found → change (row ∷ rows) (suc h) f ≡ row ∷ change rows h f
change_on row rows h f None e = rw e refl
change_on row rows h f (Some r) e = rw e refl

-- a change of one host's row that keeps what holds of it
pub change_keeps : (n : ℕ) (f : HostOf → HostOf) (rows : List HostOf) (k h : ℕ) → ((row : HostOf) → slice_get rows k ≡ Some row → RowFrom n row → RowFrom n (f row)) → FoundFrom n (slice_get rows h) → FoundFrom n (slice_get (change rows k f) h)
change_keeps n f [] k h each w = tt
change_keeps n f (row ∷ rows) zero zero each w = each row refl w
change_keeps n f (row ∷ rows) zero (suc h) each w = w
change_keeps n f (row ∷ rows) (suc k) zero each w = rw (change_on row rows k f (slice_get rows k) refl) w
change_keeps n f (row ∷ rows) (suc k) (suc h) each w = rw (change_on row rows k f (slice_get rows k) refl) (change_keeps n f rows k h each w)

-- and one that raises it
pub change_raises : (m n : ℕ) (f : HostOf → HostOf) (rows : List HostOf) (h : ℕ) → ((row : HostOf) → slice_get rows h ≡ Some row → RowFrom m row → RowFrom n (f row)) → FoundFrom m (slice_get rows h) → FoundFrom n (slice_get (change rows h f) h)
change_raises m n f [] h each w = tt
change_raises m n f (row ∷ rows) zero each w = each row refl w
change_raises m n f (row ∷ rows) (suc h) each w = rw (change_on row rows h f (slice_get rows h) refl) (change_raises m n f rows h each w)

pub found_test : (test : HostOf → Bool) (row : HostOf) (found : Option HostOf) → found ≡ Some row → option_map_or test found false ≡ true → test row ≡ true
found_test test row None is e = cc
found_test test row (Some r) is e = let same : r ≡ row = cc in rw (← same) e

zero_from : (r : Reach) → IsFrom 0 r
zero_from (At place) = omega arith
zero_from (Done ending) = tt

pub joined_from : (tree : TreeOf) (room : ℕ) (rows : List HostOf) (h : ℕ) → FoundFrom 0 (slice_get (joined_first tree room rows) h)
joined_from tree room [] h = tt
joined_from tree room (row ∷ rows) zero = zero_from (reach (joined tree (joins room row.awaits_batch) row).tree [])
joined_from tree room (row ∷ rows) (suc h) = joined_from tree (room_behind room row.awaits_batch) rows h

-- a host that waits for no batch joins none: it does nothing
joins_none : (tree : TreeOf) (room : ℕ) (row : HostOf) (n : ℕ) (awaits_batch : Bool) → awaits_batch ≡ false → RowFrom n (joined tree (joins room awaits_batch) row) × ((joins room awaits_batch || not awaits_batch) ≡ true)
joins_none tree room row n true e = cc
joins_none tree room row n false e = (tt, refl)

pub out_stays : (tree : TreeOf) (room : ℕ) (rows : List HostOf) (h n : ℕ) → FoundOut (slice_get rows h) → FoundFrom n (slice_get (joined_first tree room rows) h) × FoundBegun (slice_get (joined_first tree room rows) h)
out_stays tree room [] h n out = (tt, tt)
out_stays tree room (row ∷ rows) zero n out = joins_none tree room row n row.awaits_batch out
out_stays tree room (row ∷ rows) (suc h) n out = out_stays tree (room_behind room row.awaits_batch) rows h n out

-- a host whose batch had opened waits for none once that has closed
out_of : (awaits_batch inside : Bool) → (inside || not awaits_batch) ≡ true → (awaits_batch && not inside) ≡ false
out_of true true e = refl
out_of true false e = cc
out_of false inside e = refl

pub left_out : (rows : List HostOf) (h : ℕ) → FoundBegun (slice_get rows h) → FoundOut (slice_get (map left rows) h)
left_out [] h w = tt
left_out (row ∷ rows) zero w = out_of row.awaits_batch row.in_batch w
left_out (row ∷ rows) (suc h) w = left_out rows h w

begun_same : (a b c d : Bool) → a ≡ b → c ≡ d → (b || not d) ≡ true → (a || not c) ≡ true
begun_same a b c d e f w = rw (e, f) w

inside_begun : (a b : Bool) → a ≡ true → (a || b) ≡ true
inside_begun true b e = refl
inside_begun false b e = cc

-- a change of a row that leaves it in its batch, or out of it
pub begun_keeps : (f : HostOf → HostOf) → ((row : HostOf) → (f row).in_batch ≡ row.in_batch) → ((row : HostOf) → (f row).awaits_batch ≡ row.awaits_batch) → (rows : List HostOf) (k h : ℕ)
    → FoundBegun (slice_get rows h) → FoundBegun (slice_get (change rows k f) h)
begun_keeps f inside awaits_batch [] k h w = tt
begun_keeps f inside awaits_batch (row ∷ rows) zero zero w = begun_same (f row).in_batch row.in_batch (f row).awaits_batch row.awaits_batch (inside row) (awaits_batch row) w
begun_keeps f inside awaits_batch (row ∷ rows) zero (suc h) w = w
begun_keeps f inside awaits_batch (row ∷ rows) (suc k) zero w = rw (change_on row rows k f (slice_get rows k) refl) w
begun_keeps f inside awaits_batch (row ∷ rows) (suc k) (suc h) w = rw (change_on row rows k f (slice_get rows k) refl) (begun_keeps f inside awaits_batch rows k h w)

pub out_keeps : (f : HostOf → HostOf) → ((row : HostOf) → (f row).awaits_batch ≡ row.awaits_batch) → (rows : List HostOf) (k h : ℕ) → FoundOut (slice_get rows h) → FoundOut (slice_get (change rows k f) h)
out_keeps f awaits_batch [] k h w = tt
out_keeps f awaits_batch (row ∷ rows) zero zero w = awaits_batch row ∙ w
out_keeps f awaits_batch (row ∷ rows) zero (suc h) w = w
out_keeps f awaits_batch (row ∷ rows) (suc k) zero w = rw (change_on row rows k f (slice_get rows k) refl) w
out_keeps f awaits_batch (row ∷ rows) (suc k) (suc h) w = rw (change_on row rows k f (slice_get rows k) refl) (out_keeps f awaits_batch rows k h w)

-- a host that is in the batch after its row has changed
pub begun_at : (m : ℕ) (f : HostOf → HostOf) (rows : List HostOf) (h : ℕ) → ((row : HostOf) → slice_get rows h ≡ Some row → RowFrom m row → (f row).in_batch ≡ true) → FoundFrom m (slice_get rows h)
    → FoundBegun (slice_get (change rows h f) h)
begun_at m f [] h each w = tt
begun_at m f (row ∷ rows) zero each w = inside_begun (f row).in_batch (not (f row).awaits_batch) (each row refl w)
begun_at m f (row ∷ rows) (suc h) each w = rw (change_on row rows h f (slice_get rows h) refl) (begun_at m f rows h each w)

pub progressed_inside : (inventory : InventoryOf) (play : PlayOf) (p : ℕ) (items : List Item) (row : HostOf) → (progressed inventory play p items row).in_batch ≡ row.in_batch
progressed_inside inventory play p items row = by_over (is_over items)
  where
    by_over : (over : Bool) → (if over then ended inventory play p items row else record row { running = Some (record { place = p; items = items; out = None }) }).in_batch ≡ row.in_batch
    by_over true = refl
    by_over false = refl

pub progressed_waits : (inventory : InventoryOf) (play : PlayOf) (p : ℕ) (items : List Item) (row : HostOf) → (progressed inventory play p items row).awaits_batch ≡ row.awaits_batch
progressed_waits inventory play p items row = by_over (is_over items)
  where
    by_over : (over : Bool) → (if over then ended inventory play p items row else record row { running = Some (record { place = p; items = items; out = None }) }).awaits_batch ≡ row.awaits_batch
    by_over true = refl
    by_over false = refl

pub reported_inside : (plan : PlanOf) (play : PlayOf) (outcome : Form) (row : HostOf) → (reported plan play outcome row).in_batch ≡ row.in_batch
reported_inside plan play outcome row = by_running row.running
  where
    by_running : (running : Option Running) → (option_map_or (reported_running plan play outcome row) running row).in_batch ≡ row.in_batch
    by_running None = refl
    by_running (Some r) = progressed_inside plan.inventory play r.place (items_after plan play row.host row.facts outcome r) row

pub reported_waits : (plan : PlanOf) (play : PlayOf) (outcome : Form) (row : HostOf) → (reported plan play outcome row).awaits_batch ≡ row.awaits_batch
reported_waits plan play outcome row = by_running row.running
  where
    by_running : (running : Option Running) → (option_map_or (reported_running plan play outcome row) running row).awaits_batch ≡ row.awaits_batch
    by_running None = refl
    by_running (Some r) = progressed_waits plan.inventory play r.place (items_after plan play row.host row.facts outcome r) row

-- ---- gifts
takes_from : (n : ℕ) (gift : DelegatedFacts) (row : HostOf) → RowFrom n row → RowFrom n (takes gift row)
takes_from n gift row w = by_running row.running w
  where
    by_running : (running : Option Running) → RunsFrom n row running → RunsFrom n (takes gift row) running
    by_running None v = v
    by_running (Some r) v = v

pub given_from : (n h : ℕ) (gifts : List DelegatedFacts) (rows : List HostOf) → FoundFrom n (slice_get rows h) → FoundFrom n (slice_get (with_delegated gifts rows) h)
given_from n h gifts rows w =
    given_keeps (λ (all : List HostOf). FoundFrom n (slice_get all h)) (λ gift all w. change_keeps n (takes gift) all gift.host.0 h (λ row is v. takes_from n gift row v) w) gifts rows w

pub given_begun : (h : ℕ) (gifts : List DelegatedFacts) (rows : List HostOf) → FoundBegun (slice_get rows h) → FoundBegun (slice_get (with_delegated gifts rows) h)
given_begun h gifts rows w =
    given_keeps (λ (all : List HostOf). FoundBegun (slice_get all h)) (λ gift all w. begun_keeps (takes gift) (λ row. refl) (λ row. refl) all gift.host.0 h w) gifts rows w

pub given_out : (h : ℕ) (gifts : List DelegatedFacts) (rows : List HostOf) → FoundOut (slice_get rows h) → FoundOut (slice_get (with_delegated gifts rows) h)
given_out h gifts rows w = given_keeps (λ (all : List HostOf). FoundOut (slice_get all h)) (λ gift all w. out_keeps (takes gift) (λ row. refl) all gift.host.0 h w) gifts rows w

-- ---- turns
-- an answer at the next place of a host leads it on, or is passed over
reach_from : (n p : ℕ) (tree : TreeOf) (answers : List AnswerOf) (a : AnswerOf) (counting : Bool) → counts answers a ≡ counting → reach tree answers ≡ At p → IsFrom n (reach tree answers)
    → IsFrom n (reach tree (answers ++ a ∷ []))
reach_from n p tree answers a true c e w = let least : n ≤ 1010002 * p = subst (IsFrom n) e w in above_from n p (reach tree (answers ++ a ∷ [])) (places_rise tree answers a p e c) (omega (arith, least))
reach_from n p tree answers a false c e w = subst (IsFrom n) (sym (second_passed tree answers a c)) w

answered_from : (n p : ℕ) (kind : Kind) (broken : Bool) (facts : FactsOf) (row : HostOf) → next_place row ≡ Some p → is_running row ≡ false → RowFrom n row
    → RowFrom n (record (answered (plain_answer kind) row) { is_broken = broken; facts = facts })
answered_from n p kind broken facts row next idle w = by_running row.running idle w
  where
    by_running : (running : Option Running) → is_some running ≡ false → RunsFrom n row running → RunsFrom n (record (answered (plain_answer kind) row) { is_broken = broken; facts = facts }) running
    by_running None none v = reach_from n p row.tree row.answers (plain_answer kind) (counts row.answers (plain_answer kind)) refl (place_at (reach row.tree row.answers) row.in_batch p next) v
    by_running (Some r) none v = cc

goes_from : (n : ℕ) (f : HostOf → HostOf) → Goes f → (row : HostOf) → is_running row ≡ false → RowFrom n row → RowFrom n (f row)
goes_from n f goes row idle w =
    elim (goes row) [
      | inl same ↦ subst (RowFrom n) (sym same) w
      | inr given ↦ subst (RowFrom n) (sym given.is) (answered_from n given.place given.kind given.broken given.facts row given.next idle w)
    ]

pub turn_from : (n : ℕ) (f : HostOf → HostOf) → Goes f → (rows : List HostOf) (h : ℕ) → list_any is_running rows ≡ false → FoundFrom n (slice_get rows h) → FoundFrom n (slice_get (map f rows) h)
turn_from n f goes [] h idle w = tt
turn_from n f goes (row ∷ rows) zero idle w = goes_from n f goes row (or_left (is_running row) _ idle) w
turn_from n f goes (row ∷ rows) (suc h) idle w = turn_from n f goes rows h (or_right (is_running row) _ idle) w

pub turn_begun : (f : HostOf → HostOf) → Goes f → (rows : List HostOf) (h : ℕ) → FoundBegun (slice_get rows h) → FoundBegun (slice_get (map f rows) h)
turn_begun f goes [] h w = tt
turn_begun f goes (row ∷ rows) zero w = begun_same (f row).in_batch row.in_batch (f row).awaits_batch row.awaits_batch (goes_inside f goes row) (goes_waits f goes row) w
turn_begun f goes (row ∷ rows) (suc h) w = turn_begun f goes rows h w

pub turn_out : (f : HostOf → HostOf) → Goes f → (rows : List HostOf) (h : ℕ) → FoundOut (slice_get rows h) → FoundOut (slice_get (map f rows) h)
turn_out f goes [] h w = tt
turn_out f goes (row ∷ rows) zero w = goes_waits f goes row ∙ w
turn_out f goes (row ∷ rows) (suc h) w = turn_out f goes rows h w
