-- Sums by lanes.
use Rattle.std.proofs.Common.{◌≡◌, ◌<◌, ◌≤◌, ◌∙◌, ◌+◌, ◌^◌, ℕ, List, [], ◌∷◌, Bool, true, false, not, ◌&&◌, ◌||◌, nat_eq, map, length, drop, slice_index, arith, refl, sym, ap, w32, Fits}
use Rattle.std.specs.List.{sum, All, list_all, list_any}
use Rattle.std.specs.Simd.Lanes.{chunk, sum_l}
use Rattle.std.proofs.lemmas.List.{get_or_default}
use Rattle.std.proofs.lemmas.List.Folds.{sum_by-zero}
use Rattle.std.proofs.lemmas.List.Sums.{sum_by-cons, sum_by-le, sum_by-drop_more, sum_by-take-drop}
use Rattle.pb_lanes.specs.ColumnsOf.{is_some_count, has_some}
use Rattle.pb_lanes.proofs.Counted.{sum_from}

pub unmapped : (f : ℕ → ℕ) (xs : List ℕ) → ((x : ℕ) → f x ≡ x) → map f xs ≡ xs
unmapped f [] e = refl
unmapped f (x ∷ xs) e = rw (e x, unmapped f xs e) refl

pub sum_of_lanes : (xs : List ℕ) → sum xs ≡ sum_l xs
sum_of_lanes [] = refl
sum_of_lanes (x ∷ xs) = sum_by-cons (λ n. n) x xs ∙ ap (λ n. x + n) (sum_of_lanes xs)

-- eight more
pub eight_more : (counts : List ℕ) (at : ℕ) → sum (drop at counts) ≡ sum (chunk at 8 counts) + sum (drop (at + 8) counts)
eight_more counts at = sum_from (λ n. n) counts at 8

pub one_more : (counts : List ℕ) (at : ℕ) → at < length counts → sum (drop at counts) ≡ slice_index counts at + sum (drop (at + 1) counts)
one_more counts at lt = sum_by-drop_more (λ n. n) counts at 0 lt

pub rest_most : (counts : List ℕ) (at : ℕ) → sum (drop at counts) ≤ sum counts
rest_most counts at = let e = sum_by-take-drop (λ n. n) counts at in omega (arith, e)

-- counts of 32 bits, fewer than 2^32 of them
pub most : (counts : List ℕ) → ((k : ℕ) → Fits w32 (slice_index counts k)) → length counts < 2 ^ 32 → sum counts < 2 ^ 64
most counts fits few =
    let each : All (λ n. n ≤ 4294967295) counts =
    λ k d lt.
    let e = get_or_default counts k d 0 lt in
    let f = (fits k).fits in
    omega (arith, e, f) in
    let le = sum_by-le (λ n. n) 4294967295 counts each in
    omega (arith, le, few)

not_both : (a b : Bool) → (not a || not b) ≡ not (a && b)
not_both true true = refl
not_both true false = refl
not_both false b = refl

some_not_all : (counts : List ℕ) → list_any is_some_count counts ≡ not (list_all (λ n. nat_eq n 0) counts)
some_not_all [] = refl
some_not_all (x ∷ xs) = rw (some_not_all xs) (not_both (nat_eq x 0) (list_all (λ n. nat_eq n 0) xs))

pub some_sum : (counts : List ℕ) → not (nat_eq (sum counts) 0) ≡ has_some counts
some_sum counts = ap not (sum_by-zero (λ n. n) counts) ∙ sym (some_not_all counts)
