-- Entries in byte order stay so where one is put among them or taken out.
use Rattle.std.proofs.Common.{◌≡◌, Bool, true, false, cond, List, [], ◌∷◌, ◌++◌, String, Global, Ordering, Less, Equal, Greater, Result, Ok, Err, string_bytes, string_cmp, refl, sym, ap, subst, ◌∙◌, append_assoc}
use Rattle.std.specs.Prelude.{OnOk, OnErr}
use Rattle.std.specs.List.{AllByRecursion}
use Rattle.std.specs.List.Sorted.{IsStrictlySortedBy}
use Rattle.std.specs.Map.{keys_of, remove_entry}
use Rattle.std.specs.Ordering.{match_ordering, ordering_reverse}
use Rattle.std.specs.BTreeMap.{insert_entry}
use Rattle.std.proofs.lemmas.Cmp.{nat_list_cmp_total}

pub none_ordered : {X : Type 0} (es : List (String Global × X)) → es ≡ [] → IsStrictlySortedBy string_cmp (keys_of es)
unfolding IsStrictlySortedBy
none_ordered es e = rw e tt

-- ---- what holds of each name
put_keeps : {X : Type 0} (P : String Global → Type 0) (es : List (String Global × X)) (k : String Global) (v : X) → P k → AllByRecursion P (keys_of es) → AllByRecursion P (keys_of (insert_entry string_cmp es k v))
put_keeps P [] k v p h = (p, tt)
put_keeps {X} P (x ∷ es) k v p h = by_order (string_cmp k x.0) (put_keeps P es k v p h.1)
  where
    by_order : (o : Ordering) → AllByRecursion P (keys_of (insert_entry string_cmp es k v)) → AllByRecursion P (keys_of (match_ordering o ((k, v) ∷ x ∷ es) ((x.0, v) ∷ es) (x ∷ insert_entry string_cmp es k v)))
    by_order Less rest = (p, h)
    by_order Equal rest = h
    by_order Greater rest = (h.0, rest)

below_all : {X : Type 0} (k j : String Global) (es : List (String Global × X)) → string_cmp k j ≡ Less → AllByRecursion (λ y. string_cmp j y ≡ Less) (keys_of es) → AllByRecursion (λ y. string_cmp k y ≡ Less) (keys_of es)
below_all k j [] o h = tt
below_all k j (x ∷ es) o h = (nat_list_cmp_total.trans (string_bytes k) (string_bytes j) (string_bytes x.0) o h.0, below_all k j es o h.1)

put_by_order : {X : Type 0} (x : String Global × X) (es : List (String Global × X)) (k : String Global) (v : X) (o : Ordering) → string_cmp k x.0 ≡ o → AllByRecursion (λ y. string_cmp x.0 y ≡ Less) (keys_of es)
    → IsStrictlySortedBy string_cmp (keys_of es) → IsStrictlySortedBy string_cmp (keys_of (insert_entry string_cmp es k v))
    → IsStrictlySortedBy string_cmp (keys_of (match_ordering o ((k, v) ∷ x ∷ es) ((x.0, v) ∷ es) (x ∷ insert_entry string_cmp es k v)))
unfolding IsStrictlySortedBy
put_by_order x es k v Less o h s rest = ((o, below_all k x.0 es o h), (h, s))
put_by_order x es k v Equal o h s rest = (h, s)
put_by_order x es k v Greater o h s rest =
    let above : string_cmp x.0 k ≡ Less = nat_list_cmp_total.antisymm (string_bytes x.0) (string_bytes k) ∙ ap ordering_reverse o in
    (put_keeps (λ y. string_cmp x.0 y ≡ Less) es k v above h, rest)

pub put_ordered : {X : Type 0} (es : List (String Global × X)) (k : String Global) (v : X) → IsStrictlySortedBy string_cmp (keys_of es) → IsStrictlySortedBy string_cmp (keys_of (insert_entry string_cmp es k v))
unfolding IsStrictlySortedBy
put_ordered [] k v h = (tt, tt)
put_ordered (x ∷ es) k v h = put_by_order x es k v (string_cmp k x.0) refl h.0 h.1 (put_ordered es k v h.1)

pub kept_ordered : {X T E : Type 0} (result : Result T E) (old new : List (String Global × X)) (k : String Global) (v : X) → IsStrictlySortedBy string_cmp (keys_of old) → OnOk result (new ≡ insert_entry string_cmp old k v)
    → OnErr result (new ≡ old) → IsStrictlySortedBy string_cmp (keys_of new)
kept_ordered {X} (Ok x) old new k v h put same = subst (λ (es : List (String Global × X)). IsStrictlySortedBy string_cmp (keys_of es)) (sym put) (put_ordered old k v h)
kept_ordered {X} (Err e) old new k v h put same = subst (λ (es : List (String Global × X)). IsStrictlySortedBy string_cmp (keys_of es)) (sym same) h

cut_keeps : {X : Type 0} (P : String Global → Type 0) (test : String Global → Bool) (es : List (String Global × X)) → AllByRecursion P (keys_of es) → AllByRecursion P (keys_of (remove_entry test es))
cut_keeps P test [] h = tt
cut_keeps {X} P test (x ∷ es) h = by_test (test x.0) (cut_keeps P test es h.1)
  where
    by_test : (b : Bool) → AllByRecursion P (keys_of (remove_entry test es)) → AllByRecursion P (keys_of (cond b es (x ∷ remove_entry test es)))
    by_test true rest = h.1
    by_test false rest = (h.0, rest)

cut_by_test : {X : Type 0} (x : String Global × X) (es : List (String Global × X)) (test : String Global → Bool) (b : Bool) → AllByRecursion (λ y. string_cmp x.0 y ≡ Less) (keys_of es)
    → IsStrictlySortedBy string_cmp (keys_of es) → IsStrictlySortedBy string_cmp (keys_of (remove_entry test es)) → IsStrictlySortedBy string_cmp (keys_of (cond b es (x ∷ remove_entry test es)))
unfolding IsStrictlySortedBy
cut_by_test x es test true h s rest = s
cut_by_test x es test false h s rest = (cut_keeps (λ y. string_cmp x.0 y ≡ Less) test es h, rest)

pub cut_ordered : {X : Type 0} (test : String Global → Bool) (es : List (String Global × X)) → IsStrictlySortedBy string_cmp (keys_of es) → IsStrictlySortedBy string_cmp (keys_of (remove_entry test es))
unfolding IsStrictlySortedBy
cut_ordered test [] h = tt
cut_ordered test (x ∷ es) h = cut_by_test x es test (test x.0) h.0 h.1 (cut_ordered test es h.1)

-- ---- the last entry of a row goes before all of a tree
pub ordered_behind : {X : Type 0} (xs ys : List (String Global × X)) → IsStrictlySortedBy string_cmp (keys_of (xs ++ ys)) → IsStrictlySortedBy string_cmp (keys_of ys)
unfolding IsStrictlySortedBy
ordered_behind [] ys h = h
ordered_behind (x ∷ xs) ys h = ordered_behind xs ys h.1

pub put_first : {X : Type 0} (e : String Global × X) (es : List (String Global × X)) → IsStrictlySortedBy string_cmp (keys_of (e ∷ es)) → insert_entry string_cmp es e.0 e.1 ≡ e ∷ es
unfolding IsStrictlySortedBy
put_first e [] h = refl
put_first e (x ∷ es) h = rw h.0.0 refl

pub moved_up : {X : Type 0} (row rest tree new all : List (String Global × X)) (k : String Global) (v : X) → row ≡ rest ++ (k, v) ∷ [] → new ≡ insert_entry string_cmp tree k v → row ++ tree ≡ all → IsStrictlySortedBy string_cmp (keys_of all)
    → rest ++ new ≡ all
moved_up {X} row rest tree new all k v r n a h =
    let e : String Global × X = (k, v) in
    let whole : all ≡ rest ++ e ∷ tree = sym a ∙ ap (λ (es : List (String Global × X)). es ++ tree) r ∙ append_assoc rest (e ∷ []) tree in
    let sorted = subst (λ (es : List (String Global × X)). IsStrictlySortedBy string_cmp (keys_of es)) whole h in
    ap (λ (es : List (String Global × X)). rest ++ es) (n ∙ put_first e tree (ordered_behind rest (e ∷ tree) sorted)) ∙ sym whole
