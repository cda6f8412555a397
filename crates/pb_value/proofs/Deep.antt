-- A value that was read nests as deep as the JSON value, and one that is too deep nests deeper than there was room for.
use Rattle.std.proofs.Common.{◌≡◌, ℕ, zero, suc, ◌+◌, ◌<◌, List, [], ◌∷◌, Result, Ok, Err, Some, None, Option, ℤ, IfOk, refl, sym, ◌∙◌, subst, arith}
use Rattle.std.specs.Prelude.{max, ◌≢◌, IfErr}
use Rattle.serde_json.specs.Data as json
use Rattle.serde_json.specs.Find.{as_i64, as_u64}
use Rattle.pb_value.specs.Datum.{Datum, items_of, members_of, list, dict}
use Rattle.pb_value.specs.Depth.{depth, items_depth, members_depth}
use Rattle.pb_value.specs.JsonDepth.{json_depth, json_items_depth, json_members_depth}
use Rattle.pb_value.specs.FromJson.{whole, int_of, read, read_items, read_members}
use Rattle.pb_value.specs.Reading.{map_ok, and_then}
use Rattle.pb_value.specs.declared.fault.ValFault.{ValFault}
use Rattle.pb_value.specs.declared.fault.ValFault.TheVariants.{NotWhole, OutOfRange, TooDeep, Memory}

abbrev HasDepth : ℕ → ℕ → Result Datum ValFault → Type 0
HasDepth room deep (Ok d) = depth d ≡ deep
HasDepth room deep (Err e) = e ≡ TooDeep → room < deep

abbrev ItemsHaveDepth : ℕ → ℕ → Result (List Datum) ValFault → Type 0
ItemsHaveDepth room deep (Ok ds) = items_depth (items_of ds) ≡ deep
ItemsHaveDepth room deep (Err e) = e ≡ TooDeep → room < deep

abbrev MembersHaveDepth : ℕ → ℕ → Result (List (List ℕ × Datum)) ValFault → Type 0
MembersHaveDepth room deep (Ok ms) = members_depth (members_of ms) ≡ deep
MembersHaveDepth room deep (Err e) = e ≡ TooDeep → room < deep

of_items : (n m : ℕ) (r : Result (List Datum) ValFault) → ItemsHaveDepth n m r → HasDepth (suc n) (m + 1) (map_ok (λ xs. list (items_of xs)) r)
of_items n m (Ok ds) h = omega arith
of_items n m (Err e) h = λ deep. let below = h deep in omega arith

of_members : (n m : ℕ) (r : Result (List (List ℕ × Datum)) ValFault) → MembersHaveDepth n m r → HasDepth (suc n) (m + 1) (map_ok (λ xs. dict (members_of xs)) r)
of_members n m (Ok ds) h = omega arith
of_members n m (Err e) h = λ deep. let below = h deep in omega arith

one_item : (n k m : ℕ) (d : Datum) (r : Result (List Datum) ValFault) → depth d ≡ k → ItemsHaveDepth n m r → ItemsHaveDepth n (max k m) (map_ok (λ xs. d ∷ xs) r)
one_item n k m d (Ok ds) f h = omega arith
one_item n k m d (Err e) f h = λ deep. let below = h deep in omega arith

more_items : (n k m : ℕ) (first : Result Datum ValFault) (r : Result (List Datum) ValFault) → HasDepth n k first → ItemsHaveDepth n m r → ItemsHaveDepth n (max k m) (and_then first (λ x. map_ok (λ xs. x ∷ xs) r))
more_items n k m (Ok d) r f h = one_item n k m d r f h
more_items n k m (Err e) r f h = λ deep. let below = f deep in omega arith

one_member : (n k m : ℕ) (key : List ℕ) (d : Datum) (r : Result (List (List ℕ × Datum)) ValFault) → depth d ≡ k → MembersHaveDepth n m r → MembersHaveDepth n (max k m) (map_ok (λ xs. (key, d) ∷ xs) r)
one_member n k m key d (Ok ds) f h = omega arith
one_member n k m key d (Err e) f h = λ deep. let below = h deep in omega arith

more_members : (n k m : ℕ) (key : List ℕ) (first : Result Datum ValFault) (r : Result (List (List ℕ × Datum)) ValFault) → HasDepth n k first → MembersHaveDepth n m r
    → MembersHaveDepth n (max k m) (and_then first (λ x. map_ok (λ xs. (key, x) ∷ xs) r))
more_members n k m key (Ok d) r f h = one_member n k m key d r f h
more_members n k m key (Err e) r f h = λ deep. let below = f deep in omega arith

whole_has_depth : (room : ℕ) (a : Option ℤ) (b : Option ℕ) → HasDepth room 0 (whole a b)
whole_has_depth room (Some z) n = refl
whole_has_depth room None (Some n) = λ deep. let wrong : OutOfRange ≡ TooDeep = deep in cc
whole_has_depth room None None = λ deep. let wrong : NotWhole ≡ TooDeep = deep in cc

mutual
  pub read_has_depth : (room : ℕ) (j : json.Data) → HasDepth room (json_depth j) (read room j)
  read_has_depth room json.null = refl
  read_has_depth room (json.boolean b) = refl
  read_has_depth room (json.number n) = whole_has_depth room (as_i64 n) (as_u64 n)
  read_has_depth room (json.string s) = refl
  read_has_depth zero (json.array ds) = λ deep. omega arith
  read_has_depth (suc room) (json.array ds) = of_items room (json_items_depth ds) (read_items room ds) (items_have_depth room ds)
  read_has_depth zero (json.object ms) = λ deep. omega arith
  read_has_depth (suc room) (json.object ms) = of_members room (json_members_depth ms) (read_members room ms) (members_have_depth room ms)

  items_have_depth : (room : ℕ) (ds : json.Items) → ItemsHaveDepth room (json_items_depth ds) (read_items room ds)
  items_have_depth room json.no_items = refl
  items_have_depth room (json.item d ds) = more_items room (json_depth d) (json_items_depth ds) (read room d) (read_items room ds) (read_has_depth room d) (items_have_depth room ds)

  members_have_depth : (room : ℕ) (ms : json.Members) → MembersHaveDepth room (json_members_depth ms) (read_members room ms)
  members_have_depth room json.no_members = refl
  members_have_depth room (json.member k d ms) = more_members room (json_depth d) (json_members_depth ms) k (read room d) (read_members room ms) (read_has_depth room d) (members_have_depth room ms)

pub nested-read : (room : ℕ) (j : json.Data) (r : Result Datum ValFault) → IfOk r (λ d. read room j ≡ Ok d) → IfOk r (λ d. depth d ≡ json_depth j)
nested-read room j (Ok d) e = subst (λ x. HasDepth room (json_depth j) x) e (read_has_depth room j)
nested-read room j (Err e) h = tt

pub deep-read : (room : ℕ) (j : json.Data) (r : Result Datum ValFault) → IfErr r (λ e. e ≢ Memory → read room j ≡ Err e) → IfErr r (λ e. e ≡ TooDeep → room < json_depth j)
deep-read room j (Ok d) h = tt
deep-read room j (Err e) h = λ deep.
    let same = h (λ m. let wrong : TooDeep ≡ Memory = sym deep ∙ m in cc) in
    subst (λ x. HasDepth room (json_depth j) x) same (read_has_depth room j) deep
