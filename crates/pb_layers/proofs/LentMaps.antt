-- Lent values: they are put under names, and looked up in byte order.
use Rattle.std.proofs.Common.{◌≡◌, ℕ, zero, suc, ◌+◌, ◌≤◌, List, [], ◌∷◌, length, take, Ordering, Less, Equal, Greater, Some, None, nat_cmp, refl, sym, ap, subst, ◌∙◌, arith}
use Rattle.std.specs.Prelude.{slice_get}
use Rattle.std.specs.Borrow.{Bor}
use Rattle.std.specs.Cmp.Lexicographic.{slice_cmp}
use Rattle.std.specs.List.{AllByRecursion}
use Rattle.std.specs.List.Sorted.{IsStrictlySortedBy}
use Rattle.std.specs.Map.{keys_of}
use Rattle.std.specs.Ordering.{match_ordering, ordering_reverse}
use Rattle.std.specs.BTreeMap.{insert_entry}
use Rattle.std.proofs.lemmas.Cmp.{nat_list_cmp_total}
use Rattle.pb_value.specs.Datum.{Datum, value_at, put}
use Rattle.pb_layers.specs.Lent.{lent_map}

abbrev pub Entry : Type 0
Entry = Bor (List ℕ) × Bor Datum

abbrev pub name_cmp : Bor (List ℕ) → Bor (List ℕ) → Ordering
name_cmp j k = slice_cmp nat_cmp j.now k.now

abbrev pub IsInOrder : List Entry → Type 0
IsInOrder es = IsStrictlySortedBy (slice_cmp nat_cmp) (keys_of (lent_map es))

-- ---- a value is put under a name
match_lent : (o : Ordering) (a b c : List Entry) → lent_map (match_ordering o a b c) ≡ match_ordering o (lent_map a) (lent_map b) (lent_map c)
match_lent Less a b c = refl
match_lent Equal a b c = refl
match_lent Greater a b c = refl

inserted : (es : List Entry) (k : Bor (List ℕ)) (v : Bor Datum) → lent_map (insert_entry name_cmp es k v) ≡ put k.now v.now (lent_map es)
inserted [] k v = refl
inserted (e ∷ es) k v = match_lent (name_cmp k e.0) _ _ _ ∙ rw (inserted es k v)

pub lent_put : (es new : List Entry) (k : Bor (List ℕ)) (v : Bor Datum) → new ≡ insert_entry name_cmp es k v → lent_map new ≡ put k.now v.now (lent_map es)
lent_put es new k v e = ap lent_map e ∙ inserted es k v

-- ---- the order of the names
below_lent : (k : Bor (List ℕ)) (es : List Entry) → AllByRecursion (λ y. name_cmp k y ≡ Less) (keys_of es) → AllByRecursion (λ y. slice_cmp nat_cmp k.now y ≡ Less) (keys_of (lent_map es))
below_lent k [] h = tt
below_lent k (e ∷ es) h = (h.0, below_lent k es h.1)

pub lent_ordered : (es : List Entry) → IsStrictlySortedBy name_cmp (keys_of es) → IsInOrder es
unfolding IsStrictlySortedBy
lent_ordered [] h = tt
lent_ordered (e ∷ es) h = (below_lent e.0 es h.0, lent_ordered es h.1)

pub same_ordered : (es fs : List Entry) → fs ≡ es → IsStrictlySortedBy name_cmp (keys_of es) → IsInOrder fs
same_ordered es fs e h = subst (λ (xs : List Entry). IsInOrder xs) (sym e) (lent_ordered es h)

-- the name comes behind all of these entries
abbrev pub IsAbove : List ℕ → List Entry → Type 0
IsAbove name es = AllByRecursion (λ e. slice_cmp nat_cmp name e.0.now ≡ Greater) es

-- ---- what a name has, by one of the entries
at_entry : (P : List ℕ → Type 0) (es : List Entry) (n : ℕ) (e : Entry) → AllByRecursion P (keys_of (lent_map es)) → slice_get es n ≡ Some e → P e.0.now
at_entry P [] n e h is = absurd (cc)
at_entry P (x ∷ es) zero e h is = let same : x ≡ e = cc in subst (λ (y : Entry). P y.0.now) same h.0
at_entry P (x ∷ es) (suc n) e h is = at_entry P es n e h.1 is

beyond : (j k name : List ℕ) → slice_cmp nat_cmp j k ≡ Less → slice_cmp nat_cmp name k ≡ Greater → slice_cmp nat_cmp name j ≡ Greater
beyond j k name h g =
    let below : slice_cmp nat_cmp k name ≡ Less = nat_list_cmp_total.antisymm k name ∙ ap ordering_reverse g in
    nat_list_cmp_total.antisymm name j ∙ ap ordering_reverse (nat_list_cmp_total.trans j k name h below)

beyond_equal : (j k name : List ℕ) → slice_cmp nat_cmp j k ≡ Less → slice_cmp nat_cmp name k ≡ Equal → slice_cmp nat_cmp name j ≡ Greater
beyond_equal j k name h e = nat_list_cmp_total.congr name k j e ∙ nat_list_cmp_total.antisymm k j ∙ ap ordering_reverse h

none_below : (name k : List ℕ) (es : List Entry) → slice_cmp nat_cmp name k ≡ Less → AllByRecursion (λ y. slice_cmp nat_cmp k y ≡ Less) (keys_of (lent_map es)) → value_at name (lent_map es) ≡ None
none_below name k [] o h = refl
none_below name k (x ∷ es) o h = rw (nat_list_cmp_total.trans name k x.0.now o h.0) (none_below name k es o h.1)

pub value_here : (name : List ℕ) (es : List Entry) (n : ℕ) (e : Entry) → IsInOrder es → slice_get es n ≡ Some e → slice_cmp nat_cmp name e.0.now ≡ Equal → Some e.1.now ≡ value_at name (lent_map es)
unfolding IsStrictlySortedBy
value_here name [] n e h is o = absurd (cc)
value_here name (x ∷ es) zero e h is o =
    let same : e ≡ x = cc in
    let equal : slice_cmp nat_cmp name x.0.now ≡ Equal = ap (λ (y : Entry). slice_cmp nat_cmp name y.0.now) (sym same) ∙ o in
    rw equal (ap (λ (y : Entry). Some y.1.now) same)
value_here name (x ∷ es) (suc n) e h is o =
    let above : slice_cmp nat_cmp name x.0.now ≡ Greater = beyond_equal x.0.now e.0.now name (at_entry (λ k. slice_cmp nat_cmp x.0.now k ≡ Less) es n e h.0 is) o in
    rw above (value_here name es n e h.1 is o)

-- ---- the entries before one that the name comes behind
above_through : (name : List ℕ) (es : List Entry) (n : ℕ) (e : Entry) → IsInOrder es → slice_get es n ≡ Some e → slice_cmp nat_cmp name e.0.now ≡ Greater → IsAbove name (take (suc n) es)
unfolding IsStrictlySortedBy
above_through name [] n e h is o = tt
above_through name (x ∷ es) zero e h is o =
    let same : e ≡ x = cc in (subst (λ (y : Entry). slice_cmp nat_cmp name y.0.now ≡ Greater) same o, tt)
above_through name (x ∷ es) (suc n) e h is o = (beyond x.0.now e.0.now name (at_entry (λ k. slice_cmp nat_cmp x.0.now k ≡ Less) es n e h.0 is) o, above_through name es n e h.1 is o)

pub above_next : (name : List ℕ) (es : List Entry) (n : ℕ) (e : Entry) → IsInOrder es → slice_get es n ≡ Some e → slice_cmp nat_cmp name e.0.now ≡ Greater → IsAbove name (take (n + 1) es)
above_next name es n e h is o =
    let one : suc n ≡ n + 1 = omega arith in
    subst (λ (m : ℕ). IsAbove name (take m es)) one (above_through name es n e h is o)

-- ---- where there is none between two entries
pub none_between : (name : List ℕ) (es : List Entry) (n : ℕ) → IsInOrder es → n ≤ length es → IsAbove name (take n es) → ((e : Entry) → slice_get es n ≡ Some e → slice_cmp nat_cmp name e.0.now ≡ Less)
    → None ≡ value_at name (lent_map es)
unfolding IsStrictlySortedBy
none_between name [] n h within a b = refl
none_between name (x ∷ es) zero h within a b = rw (b x refl) (sym (none_below name x.0.now es (b x refl) h.0))
none_between name (x ∷ es) (suc n) h within a b = rw a.0 (none_between name es n h.1 (omega (arith, within)) a.1 b)
