-- What stands where a search among entries in byte order ends.
use Rattle.std.proofs.Common.{◌≡◌, ℕ, zero, suc, ◌+◌, ◌-◌, ◌/◌, ◌<◌, ◌≤◌, cond, List, [], ◌∷◌, length, take, get_or, String, Global, Ordering, Less, Equal, Greater, Result, Ok, Err, Option, Some, None, string_bytes, string_cmp, nat_cmp, refl, sym, ap, subst, ◌∙◌, arith}
use Rattle.std.specs.Prelude.{slice_get, slice_set}
use Rattle.std.specs.Cmp.Lexicographic.{slice_cmp}
use Rattle.std.specs.List.{AllByRecursion, insert, remove}
use Rattle.std.specs.List.Sorted.{IsStrictlySortedBy}
use Rattle.std.specs.Map.{keys_of, remove_entry}
use Rattle.std.specs.Ordering.{is_eq, match_ordering, ordering_reverse}
use Rattle.std.specs.BTreeMap.{insert_entry, is_at}
use Rattle.std.proofs.lemmas.Cmp.{nat_list_cmp_total}
use Rattle.pb_value.specs.Datum.{named, value_at}
use Rattle.pb_value.specs.Place.{place_of, one_further}

-- the name comes behind all of these entries
abbrev pub IsAbove : {X : Type 0} → List ℕ → List (String Global × X) → Type 0
IsAbove name es = AllByRecursion (λ e. slice_cmp nat_cmp name (string_bytes e.0) ≡ Greater) es

-- ---- three names
beyond : (j k name : List ℕ) → slice_cmp nat_cmp j k ≡ Less → slice_cmp nat_cmp name k ≡ Greater → slice_cmp nat_cmp name j ≡ Greater
beyond j k name h g =
    let below : slice_cmp nat_cmp k name ≡ Less = nat_list_cmp_total.antisymm k name ∙ ap ordering_reverse g in
    nat_list_cmp_total.antisymm name j ∙ ap ordering_reverse (nat_list_cmp_total.trans j k name h below)

beyond_equal : (j k name : List ℕ) → slice_cmp nat_cmp j k ≡ Less → slice_cmp nat_cmp name k ≡ Equal → slice_cmp nat_cmp name j ≡ Greater
beyond_equal j k name h e = nat_list_cmp_total.congr name k j e ∙ nat_list_cmp_total.antisymm k j ∙ ap ordering_reverse h

-- ---- the entries before one that isn't above the name
at_entry : {X : Type 0} (P : String Global → Type 0) (es : List (String Global × X)) (n : ℕ) (e : String Global × X) → AllByRecursion P (keys_of es) → slice_get es n ≡ Some e → P e.0
at_entry P [] n e h is = absurd (cc)
at_entry {X} P (x ∷ es) zero e h is = let same : x ≡ e = cc in subst (λ (y : String Global × X). P y.0) same h.0
at_entry P (x ∷ es) (suc n) e h is = at_entry P es n e h.1 is

-- an element by its index
pub at_place : {A : Type 0} (xs : List A) (n : ℕ) (x : A) → n < length xs → x ≡ get_or xs n x → slice_get xs n ≡ Some x
at_place [] n x lt e = absurd (omega (arith, lt))
at_place (y ∷ xs) zero x lt e = ap Some (sym e)
at_place (y ∷ xs) (suc n) x lt e = at_place xs n x (omega (arith, lt)) e

pub above_before : {X : Type 0} (name : List ℕ) (es : List (String Global × X)) (n : ℕ) (e : String Global × X) → IsStrictlySortedBy string_cmp (keys_of es) → slice_get es n ≡ Some e → slice_cmp nat_cmp name (string_bytes e.0) ≡ Equal
    → IsAbove name (take n es)
unfolding IsStrictlySortedBy
above_before name es zero e h is o = tt
above_before name [] (suc n) e h is o = tt
above_before name (x ∷ es) (suc n) e h is o = (
  beyond_equal (string_bytes x.0) (string_bytes e.0) name (at_entry (λ k. string_cmp x.0 k ≡ Less) es n e h.0 is) o,
  above_before name es n e h.1 is o,
)

pub above_through : {X : Type 0} (name : List ℕ) (es : List (String Global × X)) (n : ℕ) (e : String Global × X) → IsStrictlySortedBy string_cmp (keys_of es) → slice_get es n ≡ Some e → slice_cmp nat_cmp name (string_bytes e.0) ≡ Greater
    → IsAbove name (take (suc n) es)
unfolding IsStrictlySortedBy
above_through name [] n e h is o = tt
above_through {X} name (x ∷ es) zero e h is o =
    let same : e ≡ x = cc in (subst (λ (y : String Global × X). slice_cmp nat_cmp name (string_bytes y.0) ≡ Greater) same o, tt)
above_through name (x ∷ es) (suc n) e h is o = (
  beyond (string_bytes x.0) (string_bytes e.0) name (at_entry (λ k. string_cmp x.0 k ≡ Less) es n e h.0 is) o,
  above_through name es n e h.1 is o,
)

pub above_next : {X : Type 0} (name : List ℕ) (es : List (String Global × X)) (n : ℕ) (e : String Global × X) → IsStrictlySortedBy string_cmp (keys_of es) → slice_get es n ≡ Some e → slice_cmp nat_cmp name (string_bytes e.0) ≡ Greater
    → IsAbove name (take (n + 1) es)
above_next name es n e h is o =
    let one : suc n ≡ n + 1 = omega arith in
    subst (λ (m : ℕ). IsAbove name (take m es)) one (above_through name es n e h is o)

-- ---- the middle of what is left
pub middle_within : (low high n : ℕ) → low < high → high ≤ n → low + (high - low) / 2 < n
middle_within low high n lt le = omega (arith, lt, le)

pub middle_next : (low high : ℕ) → low < high → low + (high - low) / 2 + 1 ≤ high
middle_next low high lt = omega (arith, lt)

-- ---- where the search ends
pub place_here : {X : Type 0} (name : List ℕ) (es : List (String Global × X)) (n : ℕ) (e : String Global × X) → slice_get es n ≡ Some e → IsAbove name (take n es) → slice_cmp nat_cmp name (string_bytes e.0) ≡ Equal
    → Ok n ≡ place_of name (named es)
place_here name [] n e is a o = absurd (cc)
place_here name (x ∷ es) zero e is a o =
    let same : e ≡ x = cc in
    let equal : slice_cmp nat_cmp name (string_bytes x.0) ≡ Equal = ap (λ y. slice_cmp nat_cmp name (string_bytes y.0)) (sym same) ∙ o in
    rw equal refl
place_here name (x ∷ es) (suc n) e is a o = rw a.0 (ap one_further (place_here name es n e is a.1 o))

pub place_between : {X : Type 0} (name : List ℕ) (es : List (String Global × X)) (n : ℕ) → n ≤ length es → IsAbove name (take n es)
    → ((e : String Global × X) → slice_get es n ≡ Some e → slice_cmp nat_cmp name (string_bytes e.0) ≡ Less) → Err n ≡ place_of name (named es)
place_between name [] zero within a b = refl
place_between name [] (suc n) within a b = absurd (omega (arith, within))
place_between name (x ∷ es) zero within a b = rw (b x refl) refl
place_between name (x ∷ es) (suc n) within a b = rw a.0 (ap one_further (place_between name es n (omega (arith, within)) a.1 b))

-- ---- what stands there
abbrev IsFound : {X : Type 0} → Option X → List (String Global × X) → Result ℕ ℕ → Type 0
IsFound {X} found es (Ok n) = (e : String Global × X) → slice_get es n ≡ Some e → found ≡ Some e.1
IsFound found es (Err n) = found ≡ None

none_below : {X : Type 0} (name : List ℕ) (k : String Global) (es : List (String Global × X)) → slice_cmp nat_cmp name (string_bytes k) ≡ Less → AllByRecursion (λ y. string_cmp k y ≡ Less) (keys_of es) → value_at name (named es) ≡ None
none_below name k [] o h = refl
none_below name k (x ∷ es) o h = rw (nat_list_cmp_total.trans name (string_bytes k) (string_bytes x.0) o h.0) (none_below name k es o h.1)

found_further : {X : Type 0} (found : Option X) (x : String Global × X) (es : List (String Global × X)) (r : Result ℕ ℕ) → IsFound found es r → IsFound found (x ∷ es) (one_further r)
found_further found x es (Ok n) h = λ e is. h e is
found_further found x es (Err n) h = h

pub found_at : {X : Type 0} (name : List ℕ) (es : List (String Global × X)) → IsStrictlySortedBy string_cmp (keys_of es) → IsFound (value_at name (named es)) es (place_of name (named es))
unfolding IsStrictlySortedBy
found_at name [] h = refl
found_at {X} name (x ∷ es) h = by_order (slice_cmp nat_cmp name (string_bytes x.0)) refl h.0 (found_at name es h.1)
  where
    by_order : (o : Ordering) → slice_cmp nat_cmp name (string_bytes x.0) ≡ o → AllByRecursion (λ y. string_cmp x.0 y ≡ Less) (keys_of es) → IsFound (value_at name (named es)) es (place_of name (named es))
        → IsFound (cond (is_eq o) (Some x.1) (value_at name (named es))) (x ∷ es) (match_ordering o (Err 0) (Ok 0) (one_further (place_of name (named es))))
    by_order Less o h rest = none_below name x.0 es o h
    by_order Equal o h rest = λ e is. let same : x ≡ e = cc in ap (λ (y : String Global × X). Some y.1) same
    by_order Greater o h rest = found_further (value_at name (named es)) x es (place_of name (named es)) rest

-- ---- a value is put there
abbrev IsPut : {X : Type 0} → List (String Global × X) → String Global → X → Result ℕ ℕ → Type 0
IsPut {X} es k v (Ok n) = (e : String Global × X) → slice_get es n ≡ Some e → insert_entry string_cmp es k v ≡ slice_set es n (e.0, v)
IsPut es k v (Err n) = insert_entry string_cmp es k v ≡ insert es n (k, v)

put_further : {X : Type 0} (x : String Global × X) (es : List (String Global × X)) (k : String Global) (v : X) (r : Result ℕ ℕ) → string_cmp k x.0 ≡ Greater → IsPut es k v r → IsPut (x ∷ es) k v (one_further r)
put_further {X} x es k v (Ok n) o h = λ e is. rw o (ap (λ (rest : List (String Global × X)). x ∷ rest) (h e is))
put_further {X} x es k v (Err n) o h = rw o (ap (λ (rest : List (String Global × X)). x ∷ rest) h)

pub put_at : {X : Type 0} (es : List (String Global × X)) (k : String Global) (v : X) → IsPut es k v (place_of (string_bytes k) (named es))
put_at [] k v = refl
put_at {X} (x ∷ es) k v = by_order (string_cmp k x.0) refl (put_at es k v)
  where
    by_order : (o : Ordering) → string_cmp k x.0 ≡ o → IsPut es k v (place_of (string_bytes k) (named es)) → IsPut (x ∷ es) k v (match_ordering o (Err 0) (Ok 0) (one_further (place_of (string_bytes k) (named es))))
    by_order Less o rest = rw o refl
    by_order Equal o rest = λ e is. rw o (let same : x ≡ e = cc in ap (λ (y : String Global × X). (y.0, v) ∷ es) same)
    by_order Greater o rest = put_further x es k v (place_of (string_bytes k) (named es)) o rest

-- ---- an entry is taken out
abbrev IsCut : {X : Type 0} → List ℕ → List (String Global × X) → Result ℕ ℕ → Type 0
IsCut name es (Ok n) = remove_entry (is_at (λ k. slice_cmp nat_cmp name (string_bytes k))) es ≡ remove es n
IsCut name es (Err n) = remove_entry (is_at (λ k. slice_cmp nat_cmp name (string_bytes k))) es ≡ es

cut_below : {X : Type 0} (name : List ℕ) (k : String Global) (es : List (String Global × X)) → slice_cmp nat_cmp name (string_bytes k) ≡ Less → AllByRecursion (λ y. string_cmp k y ≡ Less) (keys_of es)
    → remove_entry (is_at (λ k. slice_cmp nat_cmp name (string_bytes k))) es ≡ es
cut_below name k [] o h = refl
cut_below {X} name k (x ∷ es) o h =
    rw (nat_list_cmp_total.trans name (string_bytes k) (string_bytes x.0) o h.0) (ap (λ (rest : List (String Global × X)). x ∷ rest) (cut_below name k es o h.1))

cut_further : {X : Type 0} (name : List ℕ) (x : String Global × X) (es : List (String Global × X)) (r : Result ℕ ℕ) → slice_cmp nat_cmp name (string_bytes x.0) ≡ Greater → IsCut name es r → IsCut name (x ∷ es) (one_further r)
cut_further {X} name x es (Ok n) o h = rw o (ap (λ (rest : List (String Global × X)). x ∷ rest) h)
cut_further {X} name x es (Err n) o h = rw o (ap (λ (rest : List (String Global × X)). x ∷ rest) h)

pub cut_at : {X : Type 0} (name : List ℕ) (es : List (String Global × X)) → IsStrictlySortedBy string_cmp (keys_of es) → IsCut name es (place_of name (named es))
unfolding IsStrictlySortedBy
cut_at name [] h = refl
cut_at {X} name (x ∷ es) h = by_order (slice_cmp nat_cmp name (string_bytes x.0)) refl h.0 (cut_at name es h.1)
  where
    by_order : (o : Ordering) → slice_cmp nat_cmp name (string_bytes x.0) ≡ o → AllByRecursion (λ y. string_cmp x.0 y ≡ Less) (keys_of es) → IsCut name es (place_of name (named es))
        → IsCut name (x ∷ es) (match_ordering o (Err 0) (Ok 0) (one_further (place_of name (named es))))
    by_order Less o h rest = rw o (ap (λ (more : List (String Global × X)). x ∷ more) (cut_below name x.0 es o h))
    by_order Equal o h rest = rw o refl
    by_order Greater o h rest = cut_further name x es (place_of name (named es)) o rest

-- ---- the same, by the answer of a search
abbrev IsWithin : {X : Type 0} → List (String Global × X) → Result ℕ ℕ → Type 0
IsWithin es (Ok n) = n < length es
IsWithin es (Err n) = n ≤ length es

within_further : {X : Type 0} (x : String Global × X) (es : List (String Global × X)) (r : Result ℕ ℕ) → IsWithin es r → IsWithin (x ∷ es) (one_further r)
within_further x es (Ok n) h =
    let more : suc n < suc (length es) = omega (arith, h) in
    more
within_further x es (Err n) h =
    let more : suc n ≤ suc (length es) = omega (arith, h) in
    more

place_within : {X : Type 0} (name : List ℕ) (es : List (String Global × X)) → IsWithin es (place_of name (named es))
place_within name [] =
    let none : 0 ≤ 0 = omega arith in
    none
place_within {X} name (x ∷ es) = by_order (slice_cmp nat_cmp name (string_bytes x.0)) (place_within name es)
  where
    by_order : (o : Ordering) → IsWithin es (place_of name (named es)) → IsWithin (x ∷ es) (match_ordering o (Err 0) (Ok 0) (one_further (place_of name (named es))))
    by_order Less rest =
        let first : 0 ≤ suc (length es) = omega arith in
        first
    by_order Equal rest =
        let first : 0 < suc (length es) = omega arith in
        first
    by_order Greater rest = within_further x es (place_of name (named es)) rest

module _ {X : Type 0} (name : List ℕ) (es : List (String Global × X)) (n : ℕ) where
  pub within_ok : Ok n ≡ place_of name (named es) → n < length es
  within_ok is = subst (λ (r : Result ℕ ℕ). IsWithin es r) (sym is) (place_within name es)

  pub within_err : Err n ≡ place_of name (named es) → n ≤ length es
  within_err is = subst (λ (r : Result ℕ ℕ). IsWithin es r) (sym is) (place_within name es)

  pub found_ok : IsStrictlySortedBy string_cmp (keys_of es) → Ok n ≡ place_of name (named es) → (e : String Global × X) → e ≡ get_or es n e → Some e.1 ≡ value_at name (named es)
  found_ok h is e at = sym (subst (λ (r : Result ℕ ℕ). IsFound (value_at name (named es)) es r) (sym is) (found_at name es h) e (at_place es n e (within_ok is) at))

  pub found_err : IsStrictlySortedBy string_cmp (keys_of es) → Err n ≡ place_of name (named es) → value_at name (named es) ≡ None
  found_err h is = subst (λ (r : Result ℕ ℕ). IsFound (value_at name (named es)) es r) (sym is) (found_at name es h)

  pub cut_ok : IsStrictlySortedBy string_cmp (keys_of es) → Ok n ≡ place_of name (named es) → (new : List (String Global × X)) → new ≡ remove es n → new ≡ remove_entry (is_at (λ k. slice_cmp nat_cmp name (string_bytes k))) es
  cut_ok h is new cut = cut ∙ sym (subst (λ (r : Result ℕ ℕ). IsCut name es r) (sym is) (cut_at name es h))

  pub cut_err : IsStrictlySortedBy string_cmp (keys_of es) → Err n ≡ place_of name (named es) → es ≡ remove_entry (is_at (λ k. slice_cmp nat_cmp name (string_bytes k))) es
  cut_err h is = sym (subst (λ (r : Result ℕ ℕ). IsCut name es r) (sym is) (cut_at name es h))

module _ {X : Type 0} (es : List (String Global × X)) (k : String Global) (v : X) (n : ℕ) where
  pub put_ok : Ok n ≡ place_of (string_bytes k) (named es) → (e : String Global × X) → e ≡ get_or es n e → (new : List (String Global × X)) → new ≡ slice_set es n (e.0, v) → new ≡ insert_entry string_cmp es k v
  put_ok is e at new put = put ∙ sym (subst (λ (r : Result ℕ ℕ). IsPut es k v r) (sym is) (put_at es k v) e (at_place es n e (within_ok (string_bytes k) es n is) at))

  pub put_err : Err n ≡ place_of (string_bytes k) (named es) → (new : List (String Global × X)) → new ≡ insert es n (k, v) → new ≡ insert_entry string_cmp es k v
  put_err is new put = put ∙ sym (subst (λ (r : Result ℕ ℕ). IsPut es k v r) (sym is) (put_at es k v))
