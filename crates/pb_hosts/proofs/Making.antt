-- What hosts learn at a turn, and what is done to each of them then, comes to what the turn does.
use Rattle.std.proofs.Common.{◌≡◌, ℕ, ◌*◌, Bool, true, false, ◌&&◌, ◌||◌, cond, List, [], ◌∷◌, map, refl, sym, ◌∙◌, ap, subst, arith}
use Rattle.std.specs.Prelude.{nat_lt, Option, Some, None, IfSome, option_map, count_by, if◌then◌else◌}
use Rattle.std.specs.List.{list_any}
use Rattle.std.specs.Option.{option_map_or}
use Rattle.std.proofs.lemmas.List.Sums.{sum_by-cons}
use Rattle.pb_value.specs.Datum.{Datum}
use Rattle.pb_inventory.specs.InventoryOf.{InventoryOf}
use Rattle.pb_facts.specs.Facts.{FactsOf}
use Rattle.pb_outcome.specs.declared.item.Item.{Item}
use Rattle.pb_outcome.specs.Items.{only_result, result_of}
use Rattle.pb_host.specs.FromPlan.{PlayOf}
use Rattle.pb_host.specs.FromTaskVars.{facts_after_end, variable_at}
use Rattle.pb_tree.specs.declared.answer.Kind.{Kind}
use Rattle.pb_host.specs.declared.host.LastTask.{LastTask}
use Rattle.pb_hosts.specs.declared.turned.HostUpdate.{HostUpdate}
use Rattle.pb_hosts.specs.declared.turned.TurnMade.{TurnMade}
use Rattle.pb_host.specs.Host.{HostOf, caught_at, facts_after, is_at, knows, task_at}
use Rattle.pb_hosts.specs.Turn.{source, copied, copied_if, with_copy, has_ended_fatally, ends_fatally, any_errors_fatal_at, is_fatal_at, batch_count, broken_count, has_failed_too_often, is_halting}
use Rattle.pb_host.specs.Turned.{answer_copied, with_answer, halted_if}
use Rattle.pb_hosts.specs.Applied.{with_update}
use Rattle.pb_hosts.specs.TurnMade.{IsTurnOf, copy_applied, kind_from, turning_row, turned_row, halts_at, turned_rows}

-- ---- one row
-- what it learns of the one result of a task without a loop
pub taught_by : (inventory : InventoryOf) (play : PlayOf) (p : ℕ) (items : List Item) (shown : Datum) (facts known : FactsOf) → Some shown ≡ only_result items
    → ((variable : List ℕ) → IfSome (only_result items) (λ (v : Datum). v ≡ result_of variable items)) → known ≡ facts_after_end inventory play p None (task_at play p items).result shown items facts
    → known ≡ facts_after inventory play p None items facts
taught_by inventory play p items shown facts known one is e =
    let same : shown ≡ result_of (variable_at play p) items = subst (λ (found : Option Datum). IfSome found (λ (v : Datum). v ≡ result_of (variable_at play p) items)) (sym one) (is (variable_at play p)) in
    e ∙ ap (λ (result : Datum). facts_after_end inventory play p None (task_at play p items).result result items facts) same

-- a host that has learnt what goes to it gets the answer, and has what it is to have
copy_as : (inventory : InventoryOf) (play : PlayOf) (p : ℕ) (from : Option HostOf) (row : HostOf) → with_answer p (kind_from from) (caught_at play p) (copy_applied inventory play p from row) ≡ with_copy inventory play p from row
copy_as inventory play p None row = refl
copy_as inventory play p (Some from) row = by_last from.last
  where
    by_at : (finish : LastTask) (b : Bool)
        → (if b then answer_copied finish.kind (caught_at play p) (knows (if b then copied inventory play p finish row else row).facts row) else knows (if b then copied inventory play p finish row else row).facts row)
        ≡ (if b then copied inventory play p finish row else row)
    by_at finish true = refl
    by_at finish false = refl

    by_last : (last : Option LastTask)
        → with_answer p (option_map (λ (finish : LastTask). finish.kind) last) (caught_at play p) (knows (option_map_or (copied_if inventory play p row) last row).facts row) ≡ option_map_or (copied_if inventory play p row) last row
    by_last None = refl
    by_last (Some finish) = by_at finish (is_at p row)

turned_as : (inventory : InventoryOf) (play : PlayOf) (p : ℕ) (from : Option HostOf) (halts : Bool) (row : HostOf)
    → halted_if halts (with_answer p (kind_from from) (caught_at play p) (copy_applied inventory play p from row)) ≡ turned_row inventory play p from halts row
turned_as inventory play p from halts row = ap (halted_if halts) (copy_as inventory play p from row)

-- ---- whether hosts are halted
pub broken_map : (f : HostOf → HostOf) (rows : List HostOf) → count_by (λ (row : HostOf). (f row).is_broken) rows ≡ broken_count (map f rows)
broken_map f [] = refl
broken_map f (row ∷ rows) =
    let rest = broken_map f rows in
    let new = sum_by-cons (λ (r : HostOf). cond (f r).is_broken 1 0) row rows in
    let old = sum_by-cons (λ (r : HostOf). cond r.is_broken 1 0) (f row) (map f rows) in
    omega (arith, rest, new, old)

copy_inside : (inventory : InventoryOf) (play : PlayOf) (p : ℕ) (from : Option HostOf) (row : HostOf) → ((with_copy inventory play p from row).in_batch ≡ row.in_batch) × ((with_copy inventory play p from row).last ≡ row.last)
copy_inside inventory play p None row = (refl, refl)
copy_inside inventory play p (Some from) row = by_last from.last
  where
    by_at : (finish : LastTask) (b : Bool) → ((if b then copied inventory play p finish row else row).in_batch ≡ row.in_batch) × ((if b then copied inventory play p finish row else row).last ≡ row.last)
    by_at finish true = (refl, refl)
    by_at finish false = (refl, refl)

    by_last : (last : Option LastTask)
        → ((option_map_or (copied_if inventory play p row) last row).in_batch ≡ row.in_batch) × ((option_map_or (copied_if inventory play p row) last row).last ≡ row.last)
    by_last None = (refl, refl)
    by_last (Some finish) = by_at finish (is_at p row)

pub batch_map : (inventory : InventoryOf) (play : PlayOf) (p : ℕ) (from : Option HostOf) (rows : List HostOf) → batch_count rows ≡ batch_count (map (with_copy inventory play p from) rows)
batch_map inventory play p from [] = refl
batch_map inventory play p from (row ∷ rows) =
    let rest = batch_map inventory play p from rows in
    let here : ◌≡◌ {A = ℕ} (cond (with_copy inventory play p from row).in_batch 1 0) (cond row.in_batch 1 0) = ap (λ (b : Bool). cond b 1 0) (copy_inside inventory play p from row).0 in
    let old = sum_by-cons (λ (r : HostOf). cond r.in_batch 1 0) row rows in
    let new = sum_by-cons (λ (r : HostOf). cond r.in_batch 1 0) (with_copy inventory play p from row) (map (with_copy inventory play p from) rows) in
    omega (arith, rest, here, old, new)

fatal_each : (inventory : InventoryOf) (play : PlayOf) (p : ℕ) (from : Option HostOf) (rows : List HostOf)
    → list_any (has_ended_fatally play p) (map (with_copy inventory play p from) rows) ≡ list_any (has_ended_fatally play p) rows
fatal_each inventory play p from [] = refl
fatal_each inventory play p from (row ∷ rows) =
    let here : has_ended_fatally play p (with_copy inventory play p from row) ≡ has_ended_fatally play p row = ap (λ (last : Option LastTask). option_map_or (ends_fatally play p) last false) (copy_inside inventory play p from row).1 in
    ap (λ (b : Bool). b || list_any (has_ended_fatally play p) (map (with_copy inventory play p from) rows)) here
    ∙ ap (λ (b : Bool). has_ended_fatally play p row || b) (fatal_each inventory play p from rows)

pub fatal_map : (inventory : InventoryOf) (play : PlayOf) (p : ℕ) (from : Option HostOf) (rows : List HostOf) → is_fatal_at play p rows ≡ is_fatal_at play p (map (with_copy inventory play p from) rows)
fatal_map inventory play p from rows = ap (λ (b : Bool). any_errors_fatal_at play p && b) (sym (fatal_each inventory play p from rows))

pub often_map : (inventory : InventoryOf) (play : PlayOf) (p : ℕ) (from : Option HostOf) (rows : List HostOf) (all broken : ℕ) → all ≡ batch_count rows → broken ≡ count_by (λ (row : HostOf). (with_copy inventory play p from row).is_broken) rows
    → nat_lt (play.max_fail_percentage * all) (100 * broken) ≡ has_failed_too_often play (map (with_copy inventory play p from) rows)
often_map inventory play p from rows all broken a b =
    ap (λ (n : ℕ). nat_lt (play.max_fail_percentage * n) (100 * broken)) (a ∙ batch_map inventory play p from rows)
    ∙ ap (λ (n : ℕ). nat_lt (play.max_fail_percentage * batch_count (map (with_copy inventory play p from) rows)) (100 * n)) (b ∙ broken_map (with_copy inventory play p from) rows)

-- ---- the whole
same_rows : (rows : List HostOf) → map (λ (row : HostOf). row) rows ≡ rows
same_rows [] = refl
same_rows (row ∷ rows) = ap (λ (rest : List HostOf). row ∷ rest) (same_rows rows)

pub nothing_new : (inventory : InventoryOf) (play : PlayOf) (p : ℕ) (rows : List HostOf) (from : Option HostOf) (halting : Bool) → from ≡ source play p rows → halting ≡ is_halting play p (map (with_copy inventory play p from) rows) → from ≡ None → halting ≡ false
    → (turned_rows inventory play p rows ≡ rows) × (halts_at inventory play p rows ≡ false)
nothing_new inventory play p rows from halting f h none no_halt =
    let gone : source play p rows ≡ None = sym f ∙ none in
    let halts_not : halts_at inventory play p rows ≡ false = ap (λ (o : Option HostOf). is_halting play p (map (with_copy inventory play p o) rows)) (sym f) ∙ sym h ∙ no_halt in (
      ap (λ (o : Option HostOf). map (turned_row inventory play p o (halts_at inventory play p rows)) rows) gone
          ∙ ap (λ (b : Bool). map (turned_row inventory play p None b) rows) halts_not
          ∙ same_rows rows,
      halts_not,
    )

map_both : (f g h : HostOf → HostOf) → ((row : HostOf) → g (f row) ≡ h row) → (rows : List HostOf) → map g (map f rows) ≡ map h rows
map_both f g h same [] = refl
map_both f g h same (row ∷ rows) = ap (λ (r : HostOf). r ∷ map g (map f rows)) (same row) ∙ ap (λ (rest : List HostOf). h row ∷ rest) (map_both f g h same rows)

pub something_new : (inventory : InventoryOf) (play : PlayOf) (p : ℕ) (rows : List HostOf) (from : Option HostOf) (kind : Option Kind) (caught halting : Bool) (all : List HostUpdate) → from ≡ source play p rows
    → halting ≡ is_halting play p (map (with_copy inventory play p from) rows) → kind ≡ kind_from from → caught ≡ caught_at play p → with_update all rows ≡ map (copy_applied inventory play p from) rows
    → (map (turning_row (record { place = p; kind = kind; is_caught = caught; halts = halting })) (with_update all rows) ≡ turned_rows inventory play p rows) × (halting ≡ halts_at inventory play p rows)
something_new inventory play p rows from kind caught halting all f h k i e =
    let same : halting ≡ halts_at inventory play p rows = h ∙ ap (λ (o : Option HostOf). is_halting play p (map (with_copy inventory play p o) rows)) f in (
      ap (map (turning_row (record { place = p; kind = kind; is_caught = caught; halts = halting }))) e
          ∙ ap (λ (o : Option Kind). map (λ (row : HostOf). halted_if halting (with_answer p o caught row)) (map (copy_applied inventory play p from) rows)) k
          ∙ ap (λ (b : Bool). map (λ (row : HostOf). halted_if halting (with_answer p (kind_from from) b row)) (map (copy_applied inventory play p from) rows)) i
          ∙ map_both (copy_applied inventory play p from) (λ (row : HostOf). halted_if halting (with_answer p (kind_from from) (caught_at play p) row)) (turned_row inventory play p from halting) (turned_as inventory play p from halting) rows
          ∙ ap (λ (o : Option HostOf). map (turned_row inventory play p o halting) rows) f
          ∙ ap (λ (b : Bool). map (turned_row inventory play p (source play p rows) b) rows) same,
      same,
    )

-- what was made of rows that are seen so
pub made_some : (inventory : InventoryOf) (play : PlayOf) (p : ℕ) (seen inside old : List HostOf) (found : Option TurnMade) (made : TurnMade) → seen ≡ inside → inside ≡ old → found ≡ Some made → IsTurnOf inventory play p seen found
    → (map (turning_row made.turning) (with_update made.all.items inside) ≡ turned_rows inventory play p old) × (made.turning.halts ≡ halts_at inventory play p old)
made_some inventory play p seen inside old found made s i f is =
    let turn = subst (IsTurnOf inventory play p seen) f is in
    (ap (λ (rows : List HostOf). map (turning_row made.turning) (with_update made.all.items rows)) (sym s) ∙ turn.0 ∙ ap (turned_rows inventory play p) (s ∙ i), turn.1 ∙ ap (halts_at inventory play p) (s ∙ i))

pub made_none : (inventory : InventoryOf) (play : PlayOf) (p : ℕ) (seen inside old : List HostOf) (found : Option TurnMade) → seen ≡ inside → inside ≡ old → found ≡ None → IsTurnOf inventory play p seen found
    → (old ≡ turned_rows inventory play p old) × (false ≡ halts_at inventory play p old)
made_none inventory play p seen inside old found s i f is =
    let turn = subst (IsTurnOf inventory play p seen) f is in
    (sym (ap (turned_rows inventory play p) (sym (s ∙ i)) ∙ turn.0 ∙ (s ∙ i)), sym (ap (halts_at inventory play p) (sym (s ∙ i)) ∙ turn.1))
