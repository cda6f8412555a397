-- The hosts of the batch alone are looked at, one after another: what is asked of all rows, or done to them, is asked of these, or done to them.
use Rattle.std.proofs.Common.{◌≡◌, ℕ, zero, suc, ◌+◌, ◌<◌, ◌≤◌, Bool, true, false, ◌&&◌, ◌||◌, not, List, [], ◌∷◌, length, map, drop, replicate, refl, sym, ◌∙◌, ap, subst, arith, cond, inl, inr}
use Rattle.std.specs.Prelude.{◌==◌, Option, Some, None, slice_get, slice_set, count_by, if◌then◌else◌}
use Rattle.std.specs.List.{list_any}
use Rattle.std.specs.Simd.Lanes.{zip2}
use Rattle.std.specs.Option.{option_map_or}
use Rattle.std.proofs.lemmas.Bool.{cases_lt}
use Rattle.std.proofs.lemmas.List.{get_or_past}
use Rattle.std.proofs.lemmas.List.Sums.{sum_by-cons}
use Rattle.std.proofs.lemmas.Simd.{length-zip2}
use Rattle.pb_planes.specs.Set.{is_in as is_member, IsNextFrom, HasNoneFrom}
use Rattle.pb_inventory.specs.InventoryOf.{InventoryOf}
use Rattle.pb_host.specs.FromPlan.{PlayOf}
use Rattle.pb_strategies.specs.declared.standings.Standing.{Standing}
use Rattle.pb_strategies.specs.Hosts.{nowhere}
use Rattle.pb_host.specs.declared.host.LastTask.{LastTask}
use Rattle.pb_host.specs.Host.{HostOf, next_place, is_at, left}
use Rattle.pb_host.specs.Runs.{is_in}
use Rattle.pb_host.specs.Standing.{standing}
use Rattle.pb_host.specs.Walking.{with_walk}
use Rattle.pb_hosts.specs.Hosts.{at_row, change, lesser, least_place, one_if}
use Rattle.pb_hosts.specs.Turn.{batch_count, copied, copied_if, with_copy}
use Rattle.pb_hosts.specs.Due.{asked_at, is_inside, IsOutside, AreOutside}
use Rattle.pb_hosts.proofs.Asked.{asked_on}
use Rattle.pb_hosts.proofs.Giving.{change_on}
use Rattle.pb_hosts.proofs.Least.{lesser_assoc, lesser_none}
use Rattle.pb_hosts.proofs.Outside.{next_none}

-- ---- the next host of the batch
drop_none : (n : ℕ) → ◌≡◌ {A = List HostOf} (drop n []) []
drop_none zero = refl
drop_none (suc n) = refl

pub member_below : (set : List Bool) (h : ℕ) → is_member set h ≡ true → h < length set
member_below set h i = elim (cases_lt h (length set)) [
  | inl w ↦ w
  | inr w ↦ let past : true ≡ false = sym i ∙ get_or_past set h false w in cc
]

found : (rows : List HostOf) (h : ℕ) → is_member (map is_inside rows) h ≡ true → (row : HostOf) × (slice_get rows h ≡ Some row) × (row.in_batch ≡ true) × (drop h rows ≡ row ∷ drop (suc h) rows)
found [] zero e = cc
found [] (suc h) e = cc
found (row ∷ rows) zero e = (row, refl, e, refl)
found (row ∷ rows) (suc h) e = found rows h e

skipped : {A : Type 0} (F : List HostOf → A) → ((row : HostOf) (rows : List HostOf) → IsOutside row → row.in_batch ≡ false → F (row ∷ rows) ≡ F rows) → (rows : List HostOf) → AreOutside rows → (from h : ℕ) → from ≤ h
    → ((i : ℕ) → from ≤ i → i < h → is_member (map is_inside rows) i ≡ false) → F (drop from rows) ≡ F (drop h rows)
skipped F idle [] out from h le off = ap F (drop_none from ∙ sym (drop_none h))
skipped F idle (row ∷ rows) out zero zero le off = refl
skipped F idle (row ∷ rows) out zero (suc h) le off =
    idle row rows out.0 (off zero (omega arith) (omega arith)) ∙ skipped F idle rows out.1 zero h (omega arith) (λ i l b. off (suc i) (omega arith) (omega (arith, b)))
skipped F idle (row ∷ rows) out (suc from) zero le off = absurd (omega (arith, le))
skipped F idle (row ∷ rows) out (suc from) (suc h) le off =
    skipped F idle rows out.1 from h (omega (arith, le)) (λ i l b. off (suc i) (omega (arith, l)) (omega (arith, b)))

ended : {A : Type 0} (F : List HostOf → A) → ((row : HostOf) (rows : List HostOf) → IsOutside row → row.in_batch ≡ false → F (row ∷ rows) ≡ F rows) → (rows : List HostOf) → AreOutside rows → (from : ℕ)
    → ((i : ℕ) → from ≤ i → is_member (map is_inside rows) i ≡ false) → F (drop from rows) ≡ F []
ended F idle [] out from off = ap F (drop_none from)
ended F idle (row ∷ rows) out zero off = idle row rows out.0 (off zero (omega arith)) ∙ ended F idle rows out.1 zero (λ i l. off (suc i) (omega arith))
ended F idle (row ∷ rows) out (suc from) off = ended F idle rows out.1 from (λ i l. off (suc i) (omega (arith, l)))

-- the row of the next host, behind which the next step begins
pub reached : {A : Type 0} (F : List HostOf → A) → ((row : HostOf) (rows : List HostOf) → IsOutside row → row.in_batch ≡ false → F (row ∷ rows) ≡ F rows) → (rows : List HostOf) (set : List Bool) (from h : ℕ) → set ≡ map is_inside rows
    → AreOutside rows → IsNextFrom set from h → (row : HostOf) × (slice_get rows h ≡ Some row) × (F (drop from rows) ≡ F (row ∷ drop (h + 1) rows))
reached F idle rows set from h e out next =
    let on = subst (λ (s : List Bool). IsNextFrom s from h) e next in
    let at = found rows h on.1 in
    let behind : suc h ≡ h + 1 = omega arith in
    (at.0, at.1, skipped F idle rows out from h on.0 on.2 ∙ ap F (at.3 ∙ ap (λ (n : ℕ). at.0 ∷ drop n rows) behind))

pub finished : {A : Type 0} (F : List HostOf → A) → ((row : HostOf) (rows : List HostOf) → IsOutside row → row.in_batch ≡ false → F (row ∷ rows) ≡ F rows) → (rows : List HostOf) (set : List Bool) (from : ℕ) → set ≡ map is_inside rows
    → AreOutside rows → HasNoneFrom set from → F (drop from rows) ≡ F []
finished F idle rows set from e out none = ended F idle rows out from (subst (λ (s : List Bool). HasNoneFrom s from) e none)

-- ---- the least place
least_idle : (row : HostOf) (rows : List HostOf) → IsOutside row → row.in_batch ≡ false → least_place (row ∷ rows) ≡ least_place rows
least_idle row rows out e = ap (λ (p : Option ℕ). lesser p (least_place rows)) (next_none row e)

pub least_step : (rows : List HostOf) (set : List Bool) (from h : ℕ) (least new whole : Option ℕ) → set ≡ map is_inside rows → AreOutside rows → IsNextFrom set from h
    → new ≡ lesser least (option_map_or next_place (slice_get rows h) None) → lesser least (least_place (drop from rows)) ≡ whole → lesser new (least_place (drop (h + 1) rows)) ≡ whole
least_step rows set from h least new whole e out next n w =
    let at = reached least_place least_idle rows set from h e out next in
    let is : new ≡ lesser least (next_place at.0) = n ∙ ap (λ (o : Option HostOf). lesser least (option_map_or next_place o None)) at.1 in
    ap (λ (p : Option ℕ). lesser p (least_place (drop (h + 1) rows))) is
    ∙ lesser_assoc least (next_place at.0) (least_place (drop (h + 1) rows))
    ∙ ap (lesser least) (sym at.2)
    ∙ w

pub least_end : (rows : List HostOf) (set : List Bool) (from : ℕ) (least whole : Option ℕ) → set ≡ map is_inside rows → AreOutside rows → HasNoneFrom set from → lesser least (least_place (drop from rows)) ≡ whole → least ≡ whole
least_end rows set from least whole e out none w =
    sym (lesser_none least) ∙ ap (lesser least) (sym (finished least_place least_idle rows set from e out none)) ∙ w

-- ---- whether one is active
some_idle : (row : HostOf) (rows : List HostOf) → IsOutside row → row.in_batch ≡ false → list_any is_in (row ∷ rows) ≡ list_any is_in rows
some_idle row rows out e = rw e refl

pub some_yes : (rows : List HostOf) (set : List Bool) (from h : ℕ) (whole : Bool) → set ≡ map is_inside rows → AreOutside rows → IsNextFrom set from h → at_row is_in rows h ≡ true → list_any is_in (drop from rows) ≡ whole → true ≡ whole
some_yes rows set from h whole e out next active w =
    let at = reached (list_any is_in) some_idle rows set from h e out next in
    let here : is_in at.0 ≡ true = ap (λ (o : Option HostOf). option_map_or is_in o false) (sym at.1) ∙ active in
    ap (λ (b : Bool). b || list_any is_in (drop (h + 1) rows)) (sym here) ∙ sym at.2 ∙ w

pub some_not : (rows : List HostOf) (set : List Bool) (from h : ℕ) (whole : Bool) → set ≡ map is_inside rows → AreOutside rows → IsNextFrom set from h → at_row is_in rows h ≡ false → list_any is_in (drop from rows) ≡ whole
    → list_any is_in (drop (h + 1) rows) ≡ whole
some_not rows set from h whole e out next not_here w =
    let at = reached (list_any is_in) some_idle rows set from h e out next in
    let here : is_in at.0 ≡ false = ap (λ (o : Option HostOf). option_map_or is_in o false) (sym at.1) ∙ not_here in
    ap (λ (b : Bool). b || list_any is_in (drop (h + 1) rows)) (sym here) ∙ sym at.2 ∙ w

pub some_end : (rows : List HostOf) (set : List Bool) (from : ℕ) (whole : Bool) → set ≡ map is_inside rows → AreOutside rows → HasNoneFrom set from → list_any is_in (drop from rows) ≡ whole → false ≡ whole
some_end rows set from whole e out none w = sym (finished (list_any is_in) some_idle rows set from e out none) ∙ w

-- ---- how many there are, and how many are broken
pub inside_count : (rows : List HostOf) → count_by (λ (b : Bool). b) (map is_inside rows) ≡ batch_count rows
inside_count [] = refl
inside_count (row ∷ rows) =
    let rest = inside_count rows in
    let bits = sum_by-cons (λ (b : Bool). cond b 1 0) row.in_batch (map is_inside rows) in
    let hosts = sum_by-cons (λ (r : HostOf). cond r.in_batch 1 0) row rows in
    omega (arith, rest, bits, hosts)

pub at_none : (p : ℕ) (row : HostOf) → row.in_batch ≡ false → is_at p row ≡ false
at_none p row e = ap (λ (next : Option ℕ). option_map_or (λ q. q == p) next false) (next_none row e)

pub copy_none : (inventory : InventoryOf) (play : PlayOf) (p : ℕ) (from : Option HostOf) (row : HostOf) → row.in_batch ≡ false → with_copy inventory play p from row ≡ row
copy_none inventory play p None row e = refl
copy_none inventory play p (Some from) row e = by_last from.last
  where
    by_last : (last : Option LastTask) → option_map_or (copied_if inventory play p row) last row ≡ row
    by_last None = refl
    by_last (Some finish) = ap (λ (b : Bool). if b then copied inventory play p finish row else row) (at_none p row e)

broken_idle : (inventory : InventoryOf) (play : PlayOf) (p : ℕ) (from : Option HostOf) (row : HostOf) (rows : List HostOf) → IsOutside row → row.in_batch ≡ false
    → count_by (λ (r : HostOf). (with_copy inventory play p from r).is_broken) (row ∷ rows) ≡ count_by (λ (r : HostOf). (with_copy inventory play p from r).is_broken) rows
broken_idle inventory play p from row rows out e =
    let whole : (with_copy inventory play p from row).is_broken ≡ false = ap (λ (r : HostOf). r.is_broken) (copy_none inventory play p from row e) ∙ sym (ap (λ (r : HostOf). r.is_broken) (out e)) in
    let none : ◌≡◌ {A = ℕ} (cond (with_copy inventory play p from row).is_broken 1 0) 0 = ap (λ (b : Bool). cond b 1 0) whole in
    let on = sum_by-cons (λ (r : HostOf). cond (with_copy inventory play p from r).is_broken 1 0) row rows in
    omega (arith, none, on)

one_is : (b : Bool) → one_if b ≡ cond b 1 0
one_is true = refl
one_is false = refl

pub broken_step : (inventory : InventoryOf) (play : PlayOf) (p : ℕ) (source : Option HostOf) (rows : List HostOf) (set : List Bool) (from h count new whole : ℕ) (is : Bool) → set ≡ map is_inside rows → AreOutside rows → IsNextFrom set from h
    → is ≡ at_row (λ (r : HostOf). (with_copy inventory play p source r).is_broken) rows h → new ≡ count + one_if is → count + count_by (λ (r : HostOf). (with_copy inventory play p source r).is_broken) (drop from rows) ≡ whole
    → new + count_by (λ (r : HostOf). (with_copy inventory play p source r).is_broken) (drop (h + 1) rows) ≡ whole
broken_step inventory play p source rows set from h count new whole is e out next i n w =
    let at = reached (count_by (λ (r : HostOf). (with_copy inventory play p source r).is_broken)) (broken_idle inventory play p source) rows set from h e out next in
    let here : is ≡ (with_copy inventory play p source at.0).is_broken = i ∙ ap (λ (o : Option HostOf). option_map_or (λ (r : HostOf). (with_copy inventory play p source r).is_broken) o false) at.1 in
    let one : one_if is ≡ cond (with_copy inventory play p source at.0).is_broken 1 0 = one_is is ∙ ap (λ (b : Bool). cond b 1 0) here in
    let on = sum_by-cons (λ (r : HostOf). cond (with_copy inventory play p source r).is_broken 1 0) at.0 (drop (h + 1) rows) in
    let all = at.2 in
    omega (arith, one, on, all, n, w)

pub broken_few : (count new from h next : ℕ) (is : Bool) → new ≡ count + one_if is → next ≡ h + 1 → from ≤ h → count ≤ from → new ≤ next
broken_few count new from h next true n e l few = omega (arith, n, e, l, few)
broken_few count new from h next false n e l few = omega (arith, n, e, l, few)

pub broken_end : (inventory : InventoryOf) (play : PlayOf) (p : ℕ) (source : Option HostOf) (rows : List HostOf) (set : List Bool) (from count whole : ℕ) → set ≡ map is_inside rows → AreOutside rows → HasNoneFrom set from
    → count + count_by (λ (r : HostOf). (with_copy inventory play p source r).is_broken) (drop from rows) ≡ whole → count ≡ whole
broken_end inventory play p source rows set from count whole e out none w =
    let rest : count_by (λ (r : HostOf). (with_copy inventory play p source r).is_broken) (drop from rows) ≡ 0 =
    finished (count_by (λ (r : HostOf). (with_copy inventory play p source r).is_broken)) (broken_idle inventory play p source) rows set from e out none in
    omega (arith, rest, w)

-- ---- each of them leaves, or steps out: so many of the first hosts have changed
abbrev pub part : (HostOf → HostOf) → ℕ → List HostOf → List HostOf
part f zero rows = rows
part f (suc n) [] = []
part f (suc n) (row ∷ rows) = f row ∷ part f n rows

-- it changes no host outside of the batch
abbrev pub Spares : (HostOf → HostOf) → Type 0
Spares f = (row : HostOf) → IsOutside row → row.in_batch ≡ false → f row ≡ row

pub left_spares : Spares left
left_spares row out e = out e

pub out_spares : Spares (with_walk None)
out_spares row out e = ap (with_walk None) (sym (out e)) ∙ out e

part_none : (f : HostOf → HostOf) (n : ℕ) → part f n [] ≡ []
part_none f zero = refl
part_none f (suc n) = refl

pub part_skip : (f : HostOf → HostOf) → Spares f → (rows : List HostOf) → AreOutside rows → (from h : ℕ) → from ≤ h → ((i : ℕ) → from ≤ i → i < h → is_member (map is_inside rows) i ≡ false) → part f from rows ≡ part f h rows
part_skip f spares [] out from h le off = part_none f from ∙ sym (part_none f h)
part_skip f spares (row ∷ rows) out zero zero le off = refl
part_skip f spares (row ∷ rows) out zero (suc h) le off =
    ap (λ (r : HostOf). r ∷ rows) (sym (spares row out.0 (off zero (omega arith) (omega arith))))
    ∙ ap (λ (rest : List HostOf). f row ∷ rest) (part_skip f spares rows out.1 zero h (omega arith) (λ i l b. off (suc i) (omega arith) (omega (arith, b))))
part_skip f spares (row ∷ rows) out (suc from) zero le off = absurd (omega (arith, le))
part_skip f spares (row ∷ rows) out (suc from) (suc h) le off =
    ap (λ (rest : List HostOf). f row ∷ rest) (part_skip f spares rows out.1 from h (omega (arith, le)) (λ i l b. off (suc i) (omega (arith, l)) (omega (arith, b))))

part_all : (f : HostOf → HostOf) → Spares f → (rows : List HostOf) → AreOutside rows → (from : ℕ) → ((i : ℕ) → from ≤ i → is_member (map is_inside rows) i ≡ false) → part f from rows ≡ map f rows
part_all f spares [] out from off = part_none f from
part_all f spares (row ∷ rows) out zero off =
    ap (λ (r : HostOf). r ∷ rows) (sym (spares row out.0 (off zero (omega arith)))) ∙ ap (λ (rest : List HostOf). f row ∷ rest) (part_all f spares rows out.1 zero (λ i l. off (suc i) (omega arith)))
part_all f spares (row ∷ rows) out (suc from) off = ap (λ (rest : List HostOf). f row ∷ rest) (part_all f spares rows out.1 from (λ i l. off (suc i) (omega (arith, l))))

part_changed : (f : HostOf → HostOf) (rows : List HostOf) (h : ℕ) → is_member (map is_inside rows) h ≡ true → change (part f h rows) h f ≡ part f (suc h) rows
part_changed f [] zero e = cc
part_changed f [] (suc h) e = cc
part_changed f (row ∷ rows) zero e = refl
part_changed f (row ∷ rows) (suc h) e = change_on (f row) (part f h rows) h f ∙ ap (λ (rest : List HostOf). f row ∷ rest) (part_changed f rows h e)

pub part_step : (f : HostOf → HostOf) → Spares f → (rows old new : List HostOf) (set : List Bool) (from h : ℕ) → set ≡ map is_inside rows → AreOutside rows → IsNextFrom set from h → old ≡ part f from rows → new ≡ change old h f → new ≡ part f (h + 1) rows
part_step f spares rows old new set from h e out next o n =
    let on = subst (λ (s : List Bool). IsNextFrom s from h) e next in
    let behind : suc h ≡ h + 1 = omega arith in
    n ∙ ap (λ (all : List HostOf). change all h f) (o ∙ part_skip f spares rows out from h on.0 on.2) ∙ part_changed f rows h on.1 ∙ ap (λ (k : ℕ). part f k rows) behind

pub part_end : (f : HostOf → HostOf) → Spares f → (rows old : List HostOf) (set : List Bool) (from : ℕ) → set ≡ map is_inside rows → AreOutside rows → HasNoneFrom set from → old ≡ part f from rows → old ≡ map f rows
part_end f spares rows old set from e out none o = o ∙ part_all f spares rows out from (subst (λ (s : List Bool). HasNoneFrom s from) e none)

part_stands : (rows : List HostOf) (h : ℕ) → is_member (map is_inside rows) h ≡ true → slice_set (map standing (part left h rows)) h nowhere ≡ map standing (part left (suc h) rows)
part_stands [] zero e = cc
part_stands [] (suc h) e = cc
part_stands (row ∷ rows) zero e = refl
part_stands (row ∷ rows) (suc h) e = ap (λ (rest : List Standing). nowhere ∷ rest) (part_stands rows h e)

pub stand_step : (rows : List HostOf) (old new : List Standing) (set : List Bool) (from h : ℕ) → set ≡ map is_inside rows → AreOutside rows → IsNextFrom set from h → old ≡ map standing (part left from rows) → new ≡ slice_set old h nowhere
    → new ≡ map standing (part left (h + 1) rows)
stand_step rows old new set from h e out next o n =
    let on = subst (λ (s : List Bool). IsNextFrom s from h) e next in
    let behind : suc h ≡ h + 1 = omega arith in
    n
    ∙ ap (λ (all : List Standing). slice_set all h nowhere) (o ∙ ap (map standing) (part_skip left left_spares rows out from h on.0 on.2))
    ∙ part_stands rows h on.1
    ∙ ap (λ (k : ℕ). map standing (part left k rows)) behind

pub stand_end : (rows : List HostOf) (old : List Standing) (set : List Bool) (from : ℕ) → set ≡ map is_inside rows → AreOutside rows → HasNoneFrom set from → old ≡ map standing (part left from rows) → old ≡ map standing (map left rows)
stand_end rows old set from e out none o = o ∙ ap (map standing) (part_all left left_spares rows out from (subst (λ (s : List Bool). HasNoneFrom s from) e none))

-- a host that has left, or has stepped out, is in no batch, and has no job to send
pub none_of : (f : HostOf → HostOf) (of : HostOf → Bool) → ((row : HostOf) → of (f row) ≡ false) → (rows : List HostOf) (n : ℕ) → n ≡ length rows → replicate n false ≡ map of (map f rows)
none_of f of off [] n e = ap (λ k. replicate k false) e
none_of f of off (row ∷ rows) n e =
    ap (λ k. replicate k false) e
    ∙ ap (λ (b : Bool). b ∷ replicate (length rows) false) (sym (off row))
    ∙ ap (λ (rest : List Bool). of (f row) ∷ rest) (none_of f of off rows (length rows) refl)

-- a set without its hosts, by any other one
pub emptied : (set from : List Bool) → length set ≡ length from → zip2 (λ (a b : Bool). a && not b) (zip2 (λ (a b : Bool). a && b) set from) from ≡ replicate (length set) false
emptied [] [] e = refl
emptied [] (b ∷ from) e = absurd (omega (arith, e))
emptied (a ∷ set) [] e = absurd (omega (arith, e))
emptied (a ∷ set) (b ∷ from) e = ap (λ (x : Bool). x ∷ zip2 (λ (a b : Bool). a && not b) (zip2 (λ (a b : Bool). a && b) set from) from) (both_not a b) ∙ ap (λ rest. false ∷ rest) (emptied set from (omega (arith, e)))
  where
    both_not : (a b : Bool) → ((a && b) && not b) ≡ false
    both_not true true = refl
    both_not true false = refl
    both_not false b = refl

pub both_width : (set from both : List Bool) → length set ≡ length from → both ≡ zip2 (λ (a b : Bool). a && b) set from → length both ≡ length from
both_width set from both e t = ap length t ∙ length-zip2 (λ (a b : Bool). a && b) set from e ∙ e

-- ---- a batch opens: so many of the first hosts stand where they do, and the others nowhere
abbrev pub stood : ℕ → List HostOf → List Standing
stood zero rows = map (λ (row : HostOf). nowhere) rows
stood (suc n) [] = []
stood (suc n) (row ∷ rows) = standing row ∷ stood n rows

pub all_nowhere : (rows : List HostOf) → replicate (length rows) nowhere ≡ stood 0 rows
all_nowhere [] = refl
all_nowhere (row ∷ rows) = ap (λ (rest : List Standing). nowhere ∷ rest) (all_nowhere rows)

stands_nowhere : (row : HostOf) → IsOutside row → row.in_batch ≡ false → standing row ≡ nowhere
stands_nowhere row out e = sym (ap standing (out e))

stood_none : (n : ℕ) → stood n [] ≡ []
stood_none zero = refl
stood_none (suc n) = refl

stood_skip : (rows : List HostOf) → AreOutside rows → (from h : ℕ) → from ≤ h → ((i : ℕ) → from ≤ i → i < h → is_member (map is_inside rows) i ≡ false) → stood from rows ≡ stood h rows
stood_skip [] out from h le off = stood_none from ∙ sym (stood_none h)
stood_skip (row ∷ rows) out zero zero le off = refl
stood_skip (row ∷ rows) out zero (suc h) le off =
    ap (λ (here : Standing). here ∷ stood 0 rows) (sym (stands_nowhere row out.0 (off zero (omega arith) (omega arith))))
    ∙ ap (λ (rest : List Standing). standing row ∷ rest) (stood_skip rows out.1 zero h (omega arith) (λ i l b. off (suc i) (omega arith) (omega (arith, b))))
stood_skip (row ∷ rows) out (suc from) zero le off = absurd (omega (arith, le))
stood_skip (row ∷ rows) out (suc from) (suc h) le off =
    ap (λ (rest : List Standing). standing row ∷ rest) (stood_skip rows out.1 from h (omega (arith, le)) (λ i l b. off (suc i) (omega (arith, l)) (omega (arith, b))))

stood_all : (rows : List HostOf) → AreOutside rows → (from : ℕ) → ((i : ℕ) → from ≤ i → is_member (map is_inside rows) i ≡ false) → stood from rows ≡ map standing rows
stood_all [] out from off = stood_none from
stood_all (row ∷ rows) out zero off =
    ap (λ (here : Standing). here ∷ stood 0 rows) (sym (stands_nowhere row out.0 (off zero (omega arith)))) ∙ ap (λ (rest : List Standing). standing row ∷ rest) (stood_all rows out.1 zero (λ i l. off (suc i) (omega arith)))
stood_all (row ∷ rows) out (suc from) off = ap (λ (rest : List Standing). standing row ∷ rest) (stood_all rows out.1 from (λ i l. off (suc i) (omega (arith, l))))

stood_asked : (rows : List HostOf) (h : ℕ) → is_member (map is_inside rows) h ≡ true → asked_at standing rows h (stood h rows) ≡ stood (suc h) rows
stood_asked [] zero e = cc
stood_asked [] (suc h) e = cc
stood_asked (row ∷ rows) zero e = refl
stood_asked (row ∷ rows) (suc h) e = asked_on standing row rows h (standing row) (stood h rows) ∙ ap (λ (rest : List Standing). standing row ∷ rest) (stood_asked rows h e)

pub stood_step : (rows : List HostOf) (old new : List Standing) (set : List Bool) (from h : ℕ) → set ≡ map is_inside rows → AreOutside rows → IsNextFrom set from h → old ≡ stood from rows → new ≡ asked_at standing rows h old → new ≡ stood (h + 1) rows
stood_step rows old new set from h e out next o n =
    let on = subst (λ (s : List Bool). IsNextFrom s from h) e next in
    let behind : suc h ≡ h + 1 = omega arith in
    n ∙ ap (asked_at standing rows h) (o ∙ stood_skip rows out from h on.0 on.2) ∙ stood_asked rows h on.1 ∙ ap (λ (k : ℕ). stood k rows) behind

pub stood_end : (rows : List HostOf) (old : List Standing) (set : List Bool) (from : ℕ) → set ≡ map is_inside rows → AreOutside rows → HasNoneFrom set from → old ≡ stood from rows → old ≡ map standing rows
stood_end rows old set from e out none o = o ∙ stood_all rows out from (subst (λ (s : List Bool). HasNoneFrom s from) e none)
