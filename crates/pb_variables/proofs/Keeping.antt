-- What hosts of the same groups share is what each of them has.
use Rattle.std.specs.Prelude.{Option, Some, None, nat_eq, slice_get, unwrap_or, if◌then◌else◌}
use Rattle.std.specs.Cmp.Lexicographic.{pointwise}
use Rattle.std.specs.Map.{lookup}
use Rattle.std.proofs.Common.{◌≡◌, ◌⊎◌, inl, inr, ℕ, zero, suc, Bool, true, false, cond, List, [], ◌∷◌, ◌++◌, map, length, refl, sym, ap, subst, ◌∙◌, arith}
use Rattle.std.proofs.lemmas.Slice.Eq.{bytes_eq-Decides}
use Rattle.indexmap.specs.IndexMap.{insert_entry}
use Rattle.pb_ids.specs.declared.numbers.GroupNo.{GroupNo}
use Rattle.pb_groups.specs.Merging.{group_no}
use Rattle.pb_inventory.specs.InventoryOf.{InventoryOf}
use Rattle.pb_inventory.specs.Vars.{groups_of_host, vars_from_groups, names_of_groups, put_groups}
use Rattle.pb_variables.specs.declared.shared.OfGroups.{OfGroups}
use Rattle.pb_variables.specs.Shared.{with_names, from_groups, numbers_of_host, IsKeptFor, FindsKept, AreKept}
use Rattle.pb_variables.proofs.Belonging.{same_names}

-- groups are their numbers
of_numbers : (groups : List GroupNo) → map group_no (map (λ (g : GroupNo). g.0) groups) ≡ groups
of_numbers [] = refl
of_numbers (g ∷ gs) = ap (λ (rest : List GroupNo). g ∷ rest) (of_numbers gs)

same_groups : (inventory : InventoryOf) (h k : ℕ) → numbers_of_host inventory h ≡ numbers_of_host inventory k → groups_of_host inventory h ≡ groups_of_host inventory k
same_groups inventory h k e = sym (of_numbers (groups_of_host inventory h)) ∙ ap (map group_no) e ∙ of_numbers (groups_of_host inventory k)

-- so hosts of the same groups have the same from them
same_from : (inventory : InventoryOf) (h k : ℕ) → numbers_of_host inventory h ≡ numbers_of_host inventory k → from_groups inventory h ≡ from_groups inventory k
same_from inventory h k e =
    ap (λ (groups : List GroupNo). with_names (put_groups inventory groups []) (names_of_groups inventory h)) (same_groups inventory h k e)
    ∙ ap (with_names (vars_from_groups inventory k)) (same_names inventory h k (same_groups inventory h k e))

some_is : {X : Type 0} (x y : X) → Some x ≡ Some y → y ≡ x
some_is {X} x y e = sym (ap (λ (o : Option X). unwrap_or o x) e)

never_some : {X Y : Type 0} (x : X) → None ≡ Some x → Y
never_some x e = absurd (let never : ⊥ = cc in never)

-- what is found in a map behind an insert: what was put in, or what was found before
module _ {K V : Type 0} (eq : K → K → Bool) (test : K → Bool) (k : K) (v w : V) (alike : (x : K) → eq k x ≡ true → test k ≡ test x) where
  abbrev Found : List (K × V) → Type 0
  Found es = ((test k ≡ true) × (w ≡ v)) ⊎ (lookup test es ≡ Some w)

  at_end : (b : Bool) → test k ≡ b → cond b (Some v) None ≡ Some w → Found []
  at_end true t at = inl (t, some_is v w at)
  at_end false t at = inr at

  in_place : (e : K × V) (es : List (K × V)) (b : Bool) → test e.0 ≡ b → test k ≡ test e.0 → cond b (Some v) (lookup test es) ≡ Some w → Found (e ∷ es)
  in_place e es true t a at = inl (a ∙ t, some_is v w at)
  in_place e es false t a at = inr (ap (λ (c : Bool). cond c (Some e.1) (lookup test es)) t ∙ at)

  behind : (e : K × V) (es : List (K × V)) → test e.0 ≡ false → Found es → Found (e ∷ es)
  behind e es t (inl put) = inl put
  behind e es t (inr was) = inr (ap (λ (c : Bool). cond c (Some e.1) (lookup test es)) t ∙ was)

  passed : (e : K × V) (es after : List (K × V)) (b : Bool) → test e.0 ≡ b → cond b (Some e.1) (lookup test after) ≡ Some w → (lookup test after ≡ Some w → Found es) → Found (e ∷ es)
  passed e es after true t at rest = inr (ap (λ (c : Bool). cond c (Some e.1) (lookup test es)) t ∙ at)
  passed e es after false t at rest = behind e es t (rest at)

  one_of : (e : K × V) (es after : List (K × V)) (b : Bool) → eq k e.0 ≡ b → lookup test (if b then (e.0, v) ∷ es else e ∷ after) ≡ Some w → (lookup test after ≡ Some w → Found es) → Found (e ∷ es)
  one_of e es after true is at rest = in_place e es (test e.0) refl (alike e.0 is) at
  one_of e es after false is at rest = passed e es after (test e.0) refl at rest

  found_after : (es : List (K × V)) → lookup test (insert_entry eq es k v) ≡ Some w → Found es
  found_after [] at = at_end (test k) refl at
  found_after (e ∷ es) at = one_of e es (insert_entry eq es k v) (eq k e.0) refl at (found_after es)

-- what was put under the numbers of one host's groups is kept for each host of these groups, and all else as before
for_each : (inventory : InventoryOf) (h k : ℕ) (numbers : List ℕ) (kept : OfGroups) (before : Option OfGroups) (w : OfGroups) → numbers ≡ numbers_of_host inventory h → kept ≡ from_groups inventory h
    → IsKeptFor inventory k before → ((pointwise nat_eq (numbers_of_host inventory k) numbers ≡ true) × (w ≡ kept)) ⊎ (before ≡ Some w) → w ≡ from_groups inventory k
for_each inventory h k numbers kept before w are is right (inl (same, put)) =
    put ∙ is ∙ same_from inventory h k (sym ((bytes_eq-Decides (numbers_of_host inventory k) numbers).0 same ∙ are))
for_each inventory h k numbers kept before w are is right (inr was) = right w was

-- keys are compared by their numbers
alike_keys : (numbers a b : List ℕ) → pointwise nat_eq a b ≡ true → pointwise nat_eq numbers a ≡ pointwise nat_eq numbers b
alike_keys numbers a b e = ap (pointwise nat_eq numbers) ((bytes_eq-Decides a b).0 e)

module _ {K : Type 0} (items : K → List ℕ) where
  abbrev pub found_in : List (K × OfGroups) → List ℕ → Option OfGroups
  found_in es numbers = lookup (λ (key : K). pointwise nat_eq numbers (items key)) es

  pub kept_found : (inventory : InventoryOf) (h : ℕ) (key : K) (kept : OfGroups) (es after : List (K × OfGroups)) → items key ≡ numbers_of_host inventory h → kept ≡ from_groups inventory h
      → FindsKept inventory (found_in es) → after ≡ insert_entry (λ (x y : K). pointwise nat_eq (items x) (items y)) es key kept → FindsKept inventory (found_in after)
  kept_found inventory h key kept es after are is right put k w at =
      for_each inventory h k (items key) kept (found_in es (numbers_of_host inventory k)) w are is (right k)
      (found_after (λ (x y : K). pointwise nat_eq (items x) (items y)) (λ (x : K). pointwise nat_eq (numbers_of_host inventory k) (items x)) key kept w
      (λ x e. alike_keys (numbers_of_host inventory k) (items key) (items x) e) es
      (sym (ap (λ (entries : List (K × OfGroups)). found_in entries (numbers_of_host inventory k)) put) ∙ at))

  -- nothing else was put in
  pub same_found : (inventory : InventoryOf) (es after : List (K × OfGroups)) → after ≡ es → FindsKept inventory (found_in es) → FindsKept inventory (found_in after)
  same_found inventory es after same right = subst (λ (entries : List (K × OfGroups)). FindsKept inventory (found_in entries)) (sym same) right

  pub none_found : (inventory : InventoryOf) (es : List (K × OfGroups)) → es ≡ [] → FindsKept inventory (found_in es)
  none_found inventory es none host of at = never_some of (sym (ap (λ (entries : List (K × OfGroups)). found_in entries (numbers_of_host inventory host)) none) ∙ at)

-- what is found under a host's groups is kept for the host
pub found_kept : (inventory : InventoryOf) (host : ℕ) (numbers : List ℕ) (found : List ℕ → Option OfGroups) (shared : OfGroups) → FindsKept inventory found → numbers ≡ numbers_of_host inventory host
    → Some shared ≡ found numbers → IsKeptFor inventory host (Some shared)
found_kept inventory host numbers found shared right are is = subst (IsKeptFor inventory host) (sym (is ∙ ap found are)) (right host)

-- what was made of a host's groups is kept for it, and nothing is
pub made_kept : (inventory : InventoryOf) (host : ℕ) (shared : OfGroups) → shared ≡ from_groups inventory host → IsKeptFor inventory host (Some shared)
made_kept inventory host shared is of e = some_is shared of e ∙ is

pub none_kept : (inventory : InventoryOf) (host : ℕ) → IsKeptFor inventory host None
none_kept inventory host of e = never_some of e

-- and what is kept for a host is its own
pub lent_right : (inventory : InventoryOf) (all : List (Option OfGroups)) (host : ℕ) (shared : OfGroups) → AreKept inventory all → slice_get all host ≡ Some (Some shared) → shared ≡ from_groups inventory host
lent_right inventory all host shared are at = are host (Some shared) at shared refl

-- one host more
further : {X : Type 0} (z : X) (zs : List X) (x y : X) (i : ℕ) → (slice_get zs i ≡ Some y) ⊎ ((i ≡ length zs) × (y ≡ x))
    → (slice_get (z ∷ zs) (suc i) ≡ Some y) ⊎ ((suc i ≡ length (z ∷ zs)) × (y ≡ x))
further z zs x y i (inl was) = inl was
further z zs x y i (inr (is, put)) = inr (omega (arith, is), put)

at_more : {X : Type 0} (all : List X) (x y : X) (i : ℕ) → slice_get (all ++ x ∷ []) i ≡ Some y → (slice_get all i ≡ Some y) ⊎ ((i ≡ length all) × (y ≡ x))
at_more [] x y zero at = inr (refl, some_is x y at)
at_more [] x y (suc i) at = inl at
at_more (z ∷ zs) x y zero at = inl at
at_more (z ∷ zs) x y (suc i) at = further z zs x y i (at_more zs x y i at)

of_either : (inventory : InventoryOf) (all : List (Option OfGroups)) (kept y : Option OfGroups) (n host : ℕ) → length all ≡ n → AreKept inventory all → IsKeptFor inventory n kept
    → (slice_get all host ≡ Some y) ⊎ ((host ≡ length all) × (y ≡ kept)) → IsKeptFor inventory host y
of_either inventory all kept y n host count are is (inl was) = are host y was
of_either inventory all kept y n host count are is (inr (at, put)) = rw (at ∙ count, put) is

pub one_more : (inventory : InventoryOf) (all after : List (Option OfGroups)) (kept : Option OfGroups) (n : ℕ) → length all ≡ n → AreKept inventory all → IsKeptFor inventory n kept
    → after ≡ all ++ kept ∷ [] → AreKept inventory after
one_more inventory all after kept n count are is pushed host y at =
    of_either inventory all kept y n host count are is (at_more all kept y host (sym (ap (λ (os : List (Option OfGroups)). slice_get os host) pushed) ∙ at))

pub none_yet : (inventory : InventoryOf) (all : List (Option OfGroups)) → all ≡ [] → AreKept inventory all
none_yet inventory all none host y at = never_some y (sym (ap (λ (os : List (Option OfGroups)). slice_get os host) none) ∙ at)
