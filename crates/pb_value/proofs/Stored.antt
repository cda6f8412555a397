-- What a dict is seen as, by the way in which its entries stand.
use Rattle.std.proofs.Common.{◌≡◌, ℕ, suc, List, [], ◌∷◌, length, String, Global, Vec, Box, Result, Ok, Err, Option, None, string_bytes, string_cmp, refl, sym, ap, subst, ◌∙◌}
use Rattle.std.specs.Prelude.{IsSome, IfOk, OnOk, OnErr}
use Rattle.std.specs.BTreeMap.{BTreeMap, insert_entry}
use Rattle.std.specs.List.Sorted.{IsStrictlySortedBy}
use Rattle.std.specs.Map.{keys_of}
use Rattle.pb_value.proofs.Named.{length-named, named-insert_entry}
use Rattle.pb_value.specs.Datum.{Datum, named, put, value_at}
use Rattle.pb_value.specs.Held.{held, values_in}
use Rattle.pb_value.specs.Names.{kept}
use Rattle.pb_value.specs.declared.val.Store.{Store}
use Rattle.pb_value.specs.declared.val.Store.TheVariants.{Few, Many, Named}

abbrev pub Entry : Type 0
Entry = String Global × Datum

-- what holds whatever comes, and so where an error does
pub on_err : {T E : Type 0} {P : Type 0} (result : Result T E) → P → OnErr result P
on_err (Ok x) p = tt
on_err (Err e) p = p

-- what holds whatever comes, and so where a value stood
pub for_ok : {T E : Type 0} {P : Type 0} (result : Result (Option T) E) → P → IfOk result (λ before. IsSome before → P)
for_ok (Ok x) p = λ some. p
for_ok (Err e) p = tt

length-keys : {K X : Type 0} (es : List (K × X)) → length (keys_of es) ≡ length es
length-keys [] = refl
length-keys (e ∷ es) = ap suc (length-keys es)

pub same_length : {X : Type 0} (es fs : List (String Global × X)) → keys_of es ≡ keys_of fs → length es ≡ length fs
same_length es fs e = sym (length-keys es) ∙ ap length e ∙ length-keys fs

-- ---- the entries
pub few_ordered : (store : Store) (row : Vec Entry Global) → store ≡ Few row → IsStrictlySortedBy string_cmp (keys_of (held store)) → IsStrictlySortedBy string_cmp (keys_of row.items)
few_ordered store row is h = subst (λ (s : Store). IsStrictlySortedBy string_cmp (keys_of (held s))) is h

pub many_ordered : (store : Store) (tree : BTreeMap (String Global) Datum) → store ≡ Many tree → IsStrictlySortedBy string_cmp (keys_of (held store)) → IsStrictlySortedBy string_cmp (keys_of tree.entries)
many_ordered store tree is h = subst (λ (s : Store). IsStrictlySortedBy string_cmp (keys_of (held s))) is h

pub few_named : (store : Store) (row : Vec Entry Global) (seen self : List (List ℕ × Datum)) → store ≡ Few row → named (held store) ≡ seen → seen ≡ self → named row.items ≡ self
few_named store row seen self is v e = subst (λ (s : Store). named (held s) ≡ seen) is v ∙ e

pub many_named : (store : Store) (tree : BTreeMap (String Global) Datum) (seen self : List (List ℕ × Datum)) → store ≡ Many tree → named (held store) ≡ seen → seen ≡ self → named tree.entries ≡ self
many_named store tree seen self is v e = subst (λ (s : Store). named (held s) ≡ seen) is v ∙ e

module _ (store : Store) (names : List (String Global)) (values : Box (Vec Datum Global) Global) (gone : ℕ) where
  pub kept_sorted : store ≡ Named names values gone → IsStrictlySortedBy string_cmp (keys_of (held store)) → IsStrictlySortedBy string_cmp (keys_of (kept gone names values.value.items))
  kept_sorted is h = subst (λ (s : Store). IsStrictlySortedBy string_cmp (keys_of (held s))) is h

  pub kept_whole : store ≡ Named names values gone → values_in store ≡ length (held store) → length values.value.items ≡ length (kept gone names values.value.items)
  kept_whole is h = subst (λ (s : Store). values_in s ≡ length (held s)) is h

  pub kept_named : (seen : List (List ℕ × Datum)) → store ≡ Named names values gone → named (held store) ≡ seen → named (kept gone names values.value.items) ≡ seen
  kept_named seen is v = subst (λ (s : Store). named (held s) ≡ seen) is v

  pub named_length : (seen : List (List ℕ × Datum)) → store ≡ Named names values gone → values_in store ≡ length (held store) → named (held store) ≡ seen → length values.value.items ≡ length seen
  named_length seen is h v = kept_whole is h ∙ (sym (length-named (kept gone names values.value.items)) ∙ ap length (kept_named seen is v))

-- ---- a value is put under a name
module _ {E : Type 0} (result : Result (Option Datum) E) (old new : List Entry) (self : List (List ℕ × Datum)) (name : String Global) (value : Datum) where
  pub seen_ok : named old ≡ self → OnOk result (new ≡ insert_entry string_cmp old name value) → OnOk result (named new ≡ put (string_bytes name) value self)
  seen_ok n h = ok result h
    where
      ok : (r : Result (Option Datum) E) → OnOk r (new ≡ insert_entry string_cmp old name value) → OnOk r (named new ≡ put (string_bytes name) value self)
      ok (Ok x) h = ap named h ∙ named-insert_entry old name value ∙ ap (put (string_bytes name) value) n
      ok (Err e) h = tt

  pub seen_before : named old ≡ self → IfOk result (λ before. before ≡ value_at (string_bytes name) (named old)) → IfOk result (λ before. before ≡ value_at (string_bytes name) self)
  seen_before n h = subst (λ (ms : List (List ℕ × Datum)). IfOk result (λ before. before ≡ value_at (string_bytes name) ms)) n h

  pub seen_stays : named old ≡ self → IfOk result (λ before. IsSome before → length new ≡ length old) → IfOk result (λ before. IsSome before → length (named new) ≡ length self)
  seen_stays n h = stays result h
    where
      stays : (r : Result (Option Datum) E) → IfOk r (λ before. IsSome before → length new ≡ length old) → IfOk r (λ before. IsSome before → length (named new) ≡ length self)
      stays (Ok x) h = λ some. length-named new ∙ h some ∙ sym (length-named old) ∙ ap length n
      stays (Err e) h = tt

  pub seen_absent : named old ≡ self → OnErr result (value_at (string_bytes name) (named old) ≡ None) → OnErr result (value_at (string_bytes name) self ≡ None)
  seen_absent n h = subst (λ (ms : List (List ℕ × Datum)). OnErr result (value_at (string_bytes name) ms ≡ None)) n h

  pub seen_err : named old ≡ self → OnErr result (new ≡ old) → OnErr result (named new ≡ self)
  seen_err n h = err result h
    where
      err : (r : Result (Option Datum) E) → OnErr r (new ≡ old) → OnErr r (named new ≡ self)
      err (Ok x) h = tt
      err (Err e) h = ap named h ∙ n

-- where nothing changed, what stands under names that are kept is the same
pub kept_same : {T E : Type 0} (result : Result T E) (gone : ℕ) (names : List (String Global)) (old new : Vec Datum Global) → OnErr result (new.items ≡ old.items) → OnErr result (kept gone names new.items ≡ kept gone names old.items)
kept_same (Ok x) gone names old new h = tt
kept_same (Err e) gone names old new h = ap (λ (vs : List Datum). kept gone names vs) h
