-- How deep a row is, where its first member is known; and that no value is read deeper than there was room for.
use Rattle.std.proofs.Common.{◌≡◌, ℕ, zero, suc, ◌≤◌, false, List, ◌∷◌, Result, Ok, Err, Some, None, Option, ℤ, IfOk, subst, arith}
use Rattle.std.specs.Prelude.{nat_le, max}
use Rattle.std.proofs.lemmas.Bool.Decides.{nat_tests}
use Rattle.serde_json.specs.Data as json
use Rattle.serde_json.specs.Find.{as_i64, as_u64}
use Rattle.pb_value.specs.Datum.{Datum, items_of, members_of, list, dict}
use Rattle.pb_value.specs.Depth.{depth, items_depth, members_depth}
use Rattle.pb_value.specs.FromJson.{whole, int_of, read, read_items, read_members}
use Rattle.pb_value.specs.Reading.{map_ok, and_then}
use Rattle.pb_value.specs.declared.fault.ValFault.{ValFault}

pub max-within : (a b n : ℕ) → a ≤ n → nat_le (max a b) n ≡ nat_le b n
max-within a b n h = grind (arith, nat_tests)

pub max-above : (a b n : ℕ) → nat_le a n ≡ false → nat_le (max a b) n ≡ false
max-above a b n h = grind (arith, nat_tests)

abbrev Shallow : ℕ → Result Datum ValFault → Type 0
Shallow n r = IfOk r (λ d. depth d ≤ n)

abbrev ShallowItems : ℕ → Result (List Datum) ValFault → Type 0
ShallowItems n r = IfOk r (λ ds. items_depth (items_of ds) ≤ n)

abbrev ShallowMembers : ℕ → Result (List (List ℕ × Datum)) ValFault → Type 0
ShallowMembers n r = IfOk r (λ ms. members_depth (members_of ms) ≤ n)

of_items : (n : ℕ) (r : Result (List Datum) ValFault) → ShallowItems n r → Shallow (suc n) (map_ok (λ xs. list (items_of xs)) r)
of_items n (Ok ds) h = omega arith
of_items n (Err e) h = tt

of_members : (n : ℕ) (r : Result (List (List ℕ × Datum)) ValFault) → ShallowMembers n r → Shallow (suc n) (map_ok (λ xs. dict (members_of xs)) r)
of_members n (Ok ds) h = omega arith
of_members n (Err e) h = tt

one_item : (n : ℕ) (d : Datum) (r : Result (List Datum) ValFault) → depth d ≤ n → ShallowItems n r → ShallowItems n (map_ok (λ xs. d ∷ xs) r)
one_item n d (Ok ds) f h = omega arith
one_item n d (Err e) f h = tt

more_items : (n : ℕ) (first : Result Datum ValFault) (r : Result (List Datum) ValFault) → Shallow n first → ShallowItems n r → ShallowItems n (and_then first (λ x. map_ok (λ xs. x ∷ xs) r))
more_items n (Ok d) r f h = one_item n d r f h
more_items n (Err e) r f h = tt

one_member : (n : ℕ) (k : List ℕ) (d : Datum) (r : Result (List (List ℕ × Datum)) ValFault) → depth d ≤ n → ShallowMembers n r → ShallowMembers n (map_ok (λ xs. (k, d) ∷ xs) r)
one_member n k d (Ok ds) f h = omega arith
one_member n k d (Err e) f h = tt

more_members : (n : ℕ) (k : List ℕ) (first : Result Datum ValFault) (r : Result (List (List ℕ × Datum)) ValFault) → Shallow n first → ShallowMembers n r
    → ShallowMembers n (and_then first (λ x. map_ok (λ xs. (k, x) ∷ xs) r))
more_members n k (Ok d) r f h = one_member n k d r f h
more_members n k (Err e) r f h = tt

whole_shallow : (room : ℕ) (a : Option ℤ) (b : Option ℕ) → Shallow room (whole a b)
whole_shallow room (Some z) n = omega arith
whole_shallow room None (Some n) = tt
whole_shallow room None None = tt

int_shallow : (room : ℕ) (n : json.Num) → Shallow room (int_of n)
int_shallow room n = whole_shallow room (as_i64 n) (as_u64 n)

mutual
  pub read_shallow : (room : ℕ) (j : json.Data) → IfOk (read room j) (λ d. depth d ≤ room)
  read_shallow room json.null = omega arith
  read_shallow room (json.boolean b) = omega arith
  read_shallow room (json.number n) = int_shallow room n
  read_shallow room (json.string s) = omega arith
  read_shallow zero (json.array ds) = tt
  read_shallow (suc room) (json.array ds) = of_items room (read_items room ds) (items_shallow room ds)
  read_shallow zero (json.object ms) = tt
  read_shallow (suc room) (json.object ms) = of_members room (read_members room ms) (members_shallow room ms)

  items_shallow : (room : ℕ) (ds : json.Items) → IfOk (read_items room ds) (λ xs. items_depth (items_of xs) ≤ room)
  items_shallow room json.no_items = omega arith
  items_shallow room (json.item d ds) = more_items room (read room d) (read_items room ds) (read_shallow room d) (items_shallow room ds)

  members_shallow : (room : ℕ) (ms : json.Members) → IfOk (read_members room ms) (λ xs. members_depth (members_of xs) ≤ room)
  members_shallow room json.no_members = omega arith
  members_shallow room (json.member k d ms) = more_members room k (read room d) (read_members room ms) (read_shallow room d) (members_shallow room ms)

-- so what was read is no deeper than its room
pub shallow-read : (room : ℕ) (j : json.Data) (r : Result Datum ValFault) → IfOk r (λ d. read room j ≡ Ok d) → IfOk r (λ d. depth d ≤ room)
shallow-read room j (Ok d) e = subst (λ x. IfOk x (λ d. depth d ≤ room)) e (read_shallow room j)
shallow-read room j (Err e) h = tt
