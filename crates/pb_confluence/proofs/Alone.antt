-- What each host reaches alone, by the state that a run is in: no event changes it, where no host has an effect on others.
use Rattle.std.proofs.Common.{◌≡◌, ℕ, zero, suc, ◌+◌, ◌*◌, ◌≤◌, Bool, true, false, ◌&&◌, not, cond, List, [], ◌∷◌, map, drop, refl, sym, ◌∙◌, ap, arith}
use Rattle.std.proofs.lemmas.Bool.{eqb-true, le-ltb}
use Rattle.std.proofs.lemmas.List.Sums.{sum_by-cons}
use Rattle.std.specs.Prelude.{◌==◌, nat_lt, Option, Some, None, slice_get, slice_index_or, if◌then◌else◌}
use Rattle.std.specs.List.{list_any}
use Rattle.std.specs.Option.{option_map_or}
use Rattle.pb_ids.specs.declared.numbers.Ticket.{Ticket}
use Rattle.pb_inventory.specs.InventoryOf.{InventoryOf}
use Rattle.pb_tree.specs.Tree.{TreeOf, size_of}
use Rattle.pb_outcome.specs.declared.item.Item.{Item}
use Rattle.pb_outcome.specs.declared.outcome.Form.{Form}
use Rattle.pb_outcome.specs.Items.{is_over}
use Rattle.pb_places.specs.Place.{PlaceOf}
use Rattle.pb_plan.specs.Plan.{PlayOf, PlanOf}
use Rattle.pb_host.specs.declared.host.Running.{Running}
use Rattle.pb_host.specs.Host.{HostOf, next_place, place_of, is_play_host, joined, ended, items_after, progressed, sent, reported, reported_running}
use Rattle.pb_hosts.specs.Batches.{has_batch_left, joins, room_behind, joined_first}
use Rattle.pb_hosts.specs.Turn.{BatchOf, run_once_host, source, with_copy, copies, has_ended_fatally, any_errors_fatal_at, is_fatal_at, batch_count, broken_count, has_failed_too_often, is_halting, halted, halts, turned, turned_by}
use Rattle.pb_state.specs.State.{State}
use Rattle.pb_state.proofs.Walked.{in_if}
use Rattle.pb_tree.specs.Walk.{reach}
use Rattle.pb_confluence.specs.Fixed.{Fixed}
use Rattle.pb_task_vars.specs.Results.{items_at}
use Rattle.pb_confluence.specs.Effect.{attempts_left, outcome_for, item_back, items_back, played_out, whole}
use Rattle.pb_confluence.specs.Alone.{goes_at, goes, walks, between, alone_from, couples, is_uncoupled}
use Rattle.pb_confluence.proofs.Batches.{SameWait}
use Rattle.pb_independence.proofs.Tests.{and_left, and_right, or_false, none_false}
use Rattle.pb_confluence.proofs.Lists.{Every}
use Rattle.pb_confluence.proofs.Rows.{running}

-- ---- what a host reaches alone from here on
abbrev pub later_alone : PlanOf → Fixed → ℕ → HostOf → HostOf
later_alone plan f n row = alone_from plan f n (drop n plan.plays) row

-- in a play that it is still to begin
abbrev pub alone_now : PlanOf → Fixed → ℕ → PlayOf → HostOf → HostOf
alone_now plan f n play row = between (walks plan f n play (size_of play.tree) (joined play.tree true (between row)))

-- in the play that goes on: in its batch, still before it, or behind it
abbrev pub in_row : PlanOf → Fixed → ℕ → PlayOf → (inside awaits_batch : Bool) → HostOf → HostOf
in_row plan f n play true awaits_batch row = later_alone plan f (n + 1) (between (walks plan f n play (size_of play.tree) row))
in_row plan f n play false true row = later_alone plan f (n + 1) (alone_now plan f n play row)
in_row plan f n play false false row = later_alone plan f (n + 1) (between row)

abbrev pub row_in : PlanOf → Fixed → ℕ → HostOf → PlayOf → HostOf
row_in plan f n row play = in_row plan f n play row.in_batch row.awaits_batch row

abbrev pub row_waits : PlanOf → Fixed → ℕ → HostOf → PlayOf → HostOf
row_waits plan f n row play = in_row plan f n play false row.awaits_batch row

abbrev pub row_value : PlanOf → Fixed → (is_open more : Bool) → ℕ → HostOf → HostOf
row_value plan f true more n row = option_map_or (row_in plan f n row) (slice_get plan.plays n) (between row)
row_value plan f false true n row = option_map_or (row_waits plan f n row) (slice_get plan.plays n) (between row)
row_value plan f false false n row = later_alone plan f n (between row)

abbrev pub values : PlanOf → Fixed → State → List HostOf
values plan f s = map (row_value plan f s.is_open (has_batch_left s.sizes_left) s.play) s.rows

-- ---- what holds of each row: what it runs is at its next place, and it is broken only in a batch
abbrev pub RunsOnly : HostOf → Option Running → Type 0
RunsOnly row None = Unit {0}
RunsOnly row (Some r) = (next_place row ≡ Some r.place) × (is_over r.items ≡ false)

abbrev pub IsRight : HostOf → Type 0
IsRight row = RunsOnly row row.running × (row.is_broken ≡ true → row.in_batch ≡ true)

pub inside_at : (p : ℕ) (row : HostOf) → next_place row ≡ Some p → row.in_batch ≡ true
inside_at p row at = in_if row.in_batch (place_of (reach row.tree row.answers)) p at

began_right : (inventory : InventoryOf) (play : PlayOf) (p : ℕ) (items : List Item) (row : HostOf) (over : Bool) → is_over items ≡ over → next_place row ≡ Some p
    → IsRight (if over then ended inventory play p items row else running (Some (record { place = p; items = items; out = None })) row)
began_right inventory play p items row true o at = (tt, λ b. inside_at p row at)
began_right inventory play p items row false o at = ((at, o), λ b. inside_at p row at)

pub progressed_right : (inventory : InventoryOf) (play : PlayOf) (p : ℕ) (items : List Item) (row : HostOf) → next_place row ≡ Some p → IsRight (progressed inventory play p items row)
progressed_right inventory play p items row at = began_right inventory play p items row (is_over items) refl at

pub sent_right : (ticket : Ticket) (row : HostOf) → IsRight row → IsRight (sent ticket row)
sent_right ticket row = by_running row.running
  where
    by_running : (x : Option Running) → IsRight (running x row) → IsRight (sent ticket (running x row))
    by_running None h = h
    by_running (Some r) h = h

reported_by : (plan : PlanOf) (play : PlayOf) (o : Form) (row : HostOf) (x : Option Running) → IsRight (running x row) → IsRight (reported plan play o (running x row))
reported_by plan play o row None h = h
reported_by plan play o row (Some r) h = progressed_right plan.inventory play r.place (items_after plan play row.host row.facts o r) (running (Some r) row) h.0.0

pub reported_right : (plan : PlanOf) (play : PlayOf) (o : Form) (row : HostOf) → IsRight row → IsRight (reported plan play o row)
reported_right plan play o row h = reported_by plan play o row row.running h

-- ---- who waits, and who is in the batch, stays
began_wait : (inventory : InventoryOf) (play : PlayOf) (p : ℕ) (items : List Item) (row : HostOf) (over : Bool) → SameWait row (if over then ended inventory play p items row else running (Some (record { place = p; items = items; out = None })) row)
began_wait inventory play p items row true = (refl, refl)
began_wait inventory play p items row false = (refl, refl)

pub progressed_wait : (inventory : InventoryOf) (play : PlayOf) (p : ℕ) (items : List Item) (row : HostOf) → SameWait row (progressed inventory play p items row)
progressed_wait inventory play p items row = began_wait inventory play p items row (is_over items)

reported_wait_by : (plan : PlanOf) (play : PlayOf) (o : Form) (row : HostOf) (x : Option Running) → SameWait row (option_map_or (reported_running plan play o row) x row)
reported_wait_by plan play o row None = (refl, refl)
reported_wait_by plan play o row (Some r) = progressed_wait plan.inventory play r.place (items_after plan play row.host row.facts o r) row

pub reported_wait : (plan : PlanOf) (play : PlayOf) (o : Form) (row : HostOf) → SameWait row (reported plan play o row)
reported_wait plan play o row = reported_wait_by plan play o row row.running

-- ---- a change of a row in the batch that its walk doesn't see
pub row_same : (plan : PlanOf) (f : Fixed) (n : ℕ) (play : PlayOf) (row new : HostOf) → row.in_batch ≡ true → new.in_batch ≡ true → walks plan f n play (size_of play.tree) new ≡ walks plan f n play (size_of play.tree) row
    → row_in plan f n new play ≡ row_in plan f n row play
row_same plan f n play row new i j same =
    ap (λ (b : Bool). in_row plan f n play b new.awaits_batch new) j
    ∙ ap (λ (r : HostOf). later_alone plan f (n + 1) (between r)) same
    ∙ sym (ap (λ (b : Bool). in_row plan f n play b row.awaits_batch row) i)

-- ---- a turn leaves all rows
map_same : (g : HostOf → HostOf) → ((row : HostOf) → g row ≡ row) → (rows : List HostOf) → map g rows ≡ rows
map_same g on [] = refl
map_same g on (row ∷ rows) = ap (λ (r : HostOf). r ∷ map g rows) (on row) ∙ ap (λ (rest : List HostOf). row ∷ rest) (map_same g on rows)

broken_within : (rows : List HostOf) → Every IsRight rows → broken_count rows ≤ batch_count rows
broken_within [] all = omega arith
broken_within (row ∷ rows) all =
    let more = broken_within rows all.1 in
    let one = sum_by-cons (λ (r : HostOf). cond r.is_broken 1 0) row rows in
    let two = sum_by-cons (λ (r : HostOf). cond r.in_batch 1 0) row rows in
    let here = at_most row.is_broken row.in_batch all.0.1 in
    omega (arith, more, one, two, here)
  where
    at_most : (a b : Bool) → (a ≡ true → b ≡ true) → cond a 1 0 ≤ cond b 1 0
    at_most true true on = omega arith
    at_most true false on = absurd (let wrong = on refl in cc)
    at_most false true on = omega arith
    at_most false false on = omega arith

abbrev pub IsFree : PlayOf → Type 0
IsFree play = is_uncoupled play ≡ true

none_of : {A : Type 0} (test : A → Bool) (xs : List A) (n : ℕ) (x : A) → list_any test xs ≡ false → slice_get xs n ≡ Some x → test x ≡ false
none_of test [] n x e there = cc
none_of test (first ∷ xs) zero x e there = let same : first ≡ x = cc in ap test (sym same) ∙ (or_false (test first) (list_any test xs) e).0
none_of test (first ∷ xs) (suc n) x e there = none_of test xs n x (or_false (test first) (list_any test xs) e).1 there

not_is : (b : Bool) → not b ≡ true → b ≡ false
not_is true e = cc
not_is false e = refl

fatal_none : (play : PlayOf) (p : ℕ) (found : Option PlaceOf) → slice_get play.places p ≡ found → list_any couples play.places ≡ false → option_map_or (λ (place : PlaceOf). place.any_errors_fatal) found false ≡ false
fatal_none play p None there e = refl
fatal_none play p (Some place) there e = (or_false place.run_once place.any_errors_fatal (none_of couples play.places p place e there)).1

too_often : (play : PlayOf) (rows : List HostOf) → play.max_fail_percentage ≡ 100 → Every IsRight rows → has_failed_too_often play rows ≡ false
too_often play rows e all =
    let within = broken_within rows all in
    ap (λ (n : ℕ). nat_lt (n * batch_count rows) (100 * broken_count rows)) e ∙ le-ltb (100 * batch_count rows) (100 * broken_count rows) (omega (arith, within))

once_none : (places : List PlaceOf) (p : ℕ) → list_any couples places ≡ false → slice_index_or (map (λ (place : PlaceOf). place.run_once) places) p false ≡ false
once_none [] p e = refl
once_none (place ∷ places) zero e = (or_false place.run_once place.any_errors_fatal (or_false (couples place) (list_any couples places) e).0).0
once_none (place ∷ places) (suc p) e = once_none places p (or_false (couples place) (list_any couples places) e).1

none_couples : (play : PlayOf) → IsFree play → list_any couples play.places ≡ false
none_couples play e = not_is (list_any couples play.places) (and_left (not (list_any couples play.places)) (play.max_fail_percentage == 100) e)

no_source : (play : PlayOf) (p : ℕ) (rows : List HostOf) → IsFree play → source play p rows ≡ None
no_source play p rows e = ap (λ (b : Bool). if b then run_once_host p rows else None) (once_none play.places p (none_couples play e))

no_copies : (inventory : InventoryOf) (play : PlayOf) (p : ℕ) (batch : BatchOf) → IsFree play → (copies inventory play p batch).rows ≡ batch.rows
no_copies inventory play p batch e =
    ap (λ (from : Option HostOf). map (with_copy inventory play p from) batch.rows) (no_source play p batch.rows e) ∙ map_same (with_copy inventory play p None) (λ row. refl) batch.rows

not_halting : (play : PlayOf) (p : ℕ) (rows : List HostOf) → IsFree play → Every IsRight rows → is_halting play p rows ≡ false
not_halting play p rows e all =
    let fatal : any_errors_fatal_at play p ≡ false = fatal_none play p (slice_get play.places p) refl (none_couples play e) in
    none_false (is_fatal_at play p rows) (has_failed_too_often play rows)
    (ap (λ (b : Bool). b && list_any (has_ended_fatally play p) rows) fatal)
    (too_often play rows (eqb-true play.max_fail_percentage 100 (and_right (not (list_any couples play.places)) (play.max_fail_percentage == 100) e)) all)

turned_at : (inventory : InventoryOf) (play : PlayOf) (p : ℕ) (batch : BatchOf) → IsFree play → Every IsRight batch.rows → turned inventory play p batch ≡ batch
turned_at inventory play p batch e all =
    let same : copies inventory play p batch ≡ batch = ap (λ (rows : List HostOf). record batch { rows = rows }) (no_copies inventory play p batch e) in
    ap (halts play p) same ∙ ap (λ (b : Bool). if b then record { rows = map halted batch.rows; sizes_left = [] } else batch) (not_halting play p batch.rows e all)

pub turned_same : (inventory : InventoryOf) (play : PlayOf) (batch : BatchOf) (place : Option ℕ) → IsFree play → Every IsRight batch.rows → turned_by inventory play batch place ≡ batch
turned_same inventory play batch None e all = refl
turned_same inventory play batch (Some p) e all = turned_at inventory play p batch e all

-- ---- whether a host waits makes no difference to its walk
abbrev with_waits : Bool → HostOf → HostOf
with_waits b row = record row { awaits_batch = b }

module _ (plan : PlanOf) (f : Fixed) (n : ℕ) (play : PlayOf) (b : Bool) where
  began_waits : (p : ℕ) (items : List Item) (row : HostOf) (over : Bool)
      → ◌≡◌ {A = HostOf} (if over then ended plan.inventory play p items (with_waits b row) else running (Some (record { place = p; items = items; out = None })) (with_waits b row))
      (with_waits b (if over then ended plan.inventory play p items row else running (Some (record { place = p; items = items; out = None })) row))
  began_waits p items row true = refl
  began_waits p items row false = refl

  report_waits : (o : Form) (row : HostOf) (x : Option Running) → option_map_or (reported_running plan play o (with_waits b row)) x (with_waits b row) ≡ with_waits b (option_map_or (reported_running plan play o row) x row)
  report_waits o row None = refl
  report_waits o row (Some r) = began_waits r.place (items_after plan play row.host row.facts o r) row (is_over (items_after plan play row.host row.facts o r))

  either_waits : (x : Option Running) (new other row : HostOf) → new ≡ with_waits b other → option_map_or (λ (r : Running). new) x (with_waits b row) ≡ with_waits b (option_map_or (λ (r : Running). other) x row)
  either_waits None new other row same = refl
  either_waits (Some r) new other row same = same

  items_waits : (k : ℕ) (row : HostOf) → items_back plan f n play k (with_waits b row) ≡ with_waits b (items_back plan f n play k row)
  items_waits zero row = refl
  items_waits (suc k) row =
      either_waits row.running (items_back plan f n play k (item_back plan f n play (with_waits b row))) (items_back plan f n play k (item_back plan f n play row)) row
      (ap (items_back plan f n play k) (report_waits (outcome_for plan f n play row) row row.running) ∙ items_waits k (item_back plan f n play row))

  played_out_waits : (x : Option Running) (row : HostOf) → played_out plan f n play x (with_waits b row) ≡ with_waits b (played_out plan f n play x row)
  played_out_waits None row = refl
  played_out_waits (Some r) row = items_waits (attempts_left r.items) row

  begun_waits : (p : ℕ) (items : List Item) (row : HostOf) (over : Bool)
      → played_out plan f n play (if over then ended plan.inventory play p items (with_waits b row) else running (Some (record { place = p; items = items; out = None })) (with_waits b row)).running
      (if over then ended plan.inventory play p items (with_waits b row) else running (Some (record { place = p; items = items; out = None })) (with_waits b row))
      ≡ with_waits b
      (played_out plan f n play (if over then ended plan.inventory play p items row else running (Some (record { place = p; items = items; out = None })) row).running
      (if over then ended plan.inventory play p items row else running (Some (record { place = p; items = items; out = None })) row))
  begun_waits p items row true = refl
  begun_waits p items row false = items_waits (attempts_left items) (running (Some (record { place = p; items = items; out = None })) row)

  whole_waits : (p : ℕ) (row : HostOf) → whole plan f n play p (with_waits b row) ≡ with_waits b (whole plan f n play p row)
  whole_waits p row = begun_waits p (items_at plan play row.host row.facts p) row (is_over (items_at plan play row.host row.facts p))

  at_waits : (next : Option ℕ) (row : HostOf) → goes_at plan f n play next (with_waits b row) ≡ with_waits b (goes_at plan f n play next row)
  at_waits None row = refl
  at_waits (Some p) row = whole_waits p row

  goes_waits : (x : Option Running) (row : HostOf) → goes plan f n play x (with_waits b row) ≡ with_waits b (goes plan f n play x row)
  goes_waits None row = at_waits (next_place row) row
  goes_waits (Some r) row = played_out_waits (Some r) row

  pub walks_waits : (k : ℕ) (row : HostOf) → walks plan f n play k (with_waits b row) ≡ with_waits b (walks plan f n play k row)
  walks_waits zero row = refl
  walks_waits (suc k) row = ap (walks plan f n play k) (goes_waits row.running row) ∙ walks_waits k (goes plan f n play row.running row)

-- ---- an open
-- a host that joins a batch of the play, or doesn't
joined_row : (plan : PlanOf) (f : Fixed) (n : ℕ) (play : PlayOf) (row : HostOf) (b inside : Bool) → row.awaits_batch ≡ b → (inside ≡ true → b ≡ true) → row_in plan f n (joined play.tree inside row) play ≡ row_waits plan f n row play
joined_row plan f n play row true true w on =
    ap (λ (r : HostOf). later_alone plan f (n + 1) (between r)) (walks_waits plan f n play row.awaits_batch (size_of play.tree) (joined play.tree true (between row)))
    ∙ sym (ap (λ (c : Bool). in_row plan f n play false c row) w)
joined_row plan f n play row true false w on =
    ap (λ (c : Bool). in_row plan f n play false c (joined play.tree false row)) w ∙ sym (ap (λ (c : Bool). in_row plan f n play false c row) w)
joined_row plan f n play row false true w on = absurd (let wrong = on refl in cc)
joined_row plan f n play row false false w on =
    ap (λ (c : Bool). in_row plan f n play false c (joined play.tree false row)) w ∙ sym (ap (λ (c : Bool). in_row plan f n play false c row) w)

waits_joins : (room : ℕ) (b : Bool) → joins room b ≡ true → b ≡ true
waits_joins room true e = refl
waits_joins room false e = cc

pub joined_rows : (plan : PlanOf) (f : Fixed) (n : ℕ) (play : PlayOf) (rows : List HostOf) (room : ℕ)
    → map (λ (row : HostOf). row_in plan f n row play) (joined_first play.tree room rows) ≡ map (λ (row : HostOf). row_waits plan f n row play) rows
joined_rows plan f n play [] room = refl
joined_rows plan f n play (row ∷ rows) room =
    ap (λ (r : HostOf). r ∷ map (λ (x : HostOf). row_in plan f n x play) (joined_first play.tree (room_behind room row.awaits_batch) rows)) (joined_row plan f n play row row.awaits_batch (joins room row.awaits_batch) refl (waits_joins room row.awaits_batch))
    ∙ ap (λ (rest : List HostOf). row_waits plan f n row play ∷ rest) (joined_rows plan f n play rows (room_behind room row.awaits_batch))

pub joined_right : (tree : TreeOf) (rows : List HostOf) (room : ℕ) → Every IsRight (joined_first tree room rows)
joined_right tree [] room = tt
joined_right tree (row ∷ rows) room = ((tt, λ broken. cc), joined_right tree rows (room_behind room row.awaits_batch))

-- a play that begins: those that it has wait
called_row : (plan : PlanOf) (f : Fixed) (n : ℕ) (play : PlayOf) (row : HostOf) (b : Bool) → is_play_host play.hosts row ≡ b
    → in_row plan f n play false b row ≡ later_alone plan f (n + 1) (if b then alone_now plan f n play row else between row)
called_row plan f n play row true e = refl
called_row plan f n play row false e = refl
