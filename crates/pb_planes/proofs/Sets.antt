-- From the bits of words to the list of Bools of a set.
use Rattle.std.proofs.Common.{◌≡◌, ◌≢◌, ◌<◌, ◌≤◌, ◌∙◌, ◌+◌, ◌*◌, ◌/◌, ◌%◌, ◌-◌, ◌^◌, ◌++◌, ◌&&◌, ◌||◌, not, min, max, ℕ, zero, suc, List, [], ◌∷◌, Bool, true, false, Option, Some, None, IfSome, IfNone, map, length, take, count_by, replicate, slice_get, slice_set, slice_index, slice_index_or, nat_lt, bit_and, bit_or, bit_xor, arith, rules, refl, sym, subst, inl, inr}
use Rattle.std.specs.Prelude.{◌==◌}
use Rattle.std.specs.Int.{bit_at}
use Rattle.std.specs.List.{range_with_len, list_any}
use Rattle.std.specs.Simd.Lanes.{zip2}
use Rattle.std.proofs.lemmas.Nat.Bits.{bit_at_or, bit_at_and, bit_at_xor, bit_at-lt, bit_at-zero}
use Rattle.std.proofs.lemmas.List.Folds.{list_any_at}
use Rattle.std.proofs.lemmas.List.{get_or-replicate, length-replicate, get_or_past, take_at, length-set, get_or-set_same, get_or-set_other}
use Rattle.std.proofs.lemmas.List.FromFn.{get_or-map-range_with_len, length-map-range_with_len, take-map-range_with_len, fill_by_all}
use Rattle.std.proofs.lemmas.Option.{slice_get-get_or}
use Rattle.std.proofs.lemmas.Simd.{zip2-map}
use Rattle.std.proofs.lemmas.Bool.{cases_lt, lt-ltb, le-ltb}
use Rattle.pb_planes.specs.declared.words.Combine.{Combine}
use Rattle.pb_planes.specs.declared.words.Combine.TheVariants.{Either, Both, Without}
use Rattle.pb_planes.specs.Set.{is_in, has_some}
use Rattle.pb_planes.specs.Words.{has_at, bools, combined, combined_bits, members}
use Rattle.pb_planes.proofs.Counted.{members_past}
use Rattle.pb_planes.proofs.Put.{cases_eq}

pub width_is : (words : List ℕ) (width : ℕ) (self : List Bool) → bools words width ≡ self → length self ≡ width
width_is words width self v = rw (← v) (length-map-range_with_len (has_at words) 0 width)

pub has_bools : (words : List ℕ) (width i : ℕ) → ((k : ℕ) → width ≤ k → has_at words k ≡ false) → is_in (bools words width) i ≡ has_at words i
has_bools words width i past =
    elim (cases_lt i width) [
      | inl lt ↦ get_or-map-range_with_len (has_at words) 0 width i i false lt (omega arith)
      | inr le ↦
          let long = length-map-range_with_len (has_at words) 0 width in
          let out : is_in (bools words width) i ≡ false = get_or_past (bools words width) i false (omega arith) in
          out ∙ sym (past i le)
    ]

pub get_is : (words : List ℕ) (width i : ℕ) (self : List Bool) → bools words width ≡ self → i < width → slice_get self i ≡ Some (has_at words i)
get_is words width i self v lt =
    let long = length-map-range_with_len (has_at words) 0 width in
    let got = slice_get-get_or (bools words width) i false (omega arith) in
    let here = get_or-map-range_with_len (has_at words) 0 width i i false lt (omega arith) in
    rw (← v) (got ∙ rw here refl)

pub put_is : (old new : List ℕ) (width i : ℕ) (b : Bool) (self : List Bool) → bools old width ≡ self → i < width → has_at new i ≡ b → ((k : ℕ) → k ≢ i → has_at new k ≡ has_at old k) → bools new width ≡ slice_set self i b
put_is old new width i b self v lt here others = rw (← v) (sym (fill_by_all (has_at new) (slice_set (bools old width) i b) width false long each))
  where
    size : length (bools old width) ≡ width
    size = length-map-range_with_len (has_at old) 0 width

    long : length (slice_set (bools old width) i b) ≡ width
    long = length-set (bools old width) i b ∙ size

    each : (k : ℕ) → k < width → slice_index_or (slice_set (bools old width) i b) k false ≡ has_at new k
    each k le =
        elim (cases_eq k i) [
          | inl e ↦
              let same = get_or-set_same (bools old width) i b false (omega (arith, size, lt)) in
              rw e (same ∙ sym here)
          | inr ne ↦
              let same = get_or-set_other (bools old width) i k b false ne in
              let was = get_or-map-range_with_len (has_at old) 0 width k k false le (omega arith) in
              same ∙ was ∙ sym (others k ne)
        ]

either : (a b : ℕ) → a < 2 → b < 2 → (max a b == 1) ≡ (a == 1 || b == 1)
either zero zero la lb = refl
either zero (suc zero) la lb = refl
either (suc zero) zero la lb = refl
either (suc zero) (suc zero) la lb = refl
either (suc (suc a)) b la lb = absurd (omega arith)
either a (suc (suc b)) la lb = absurd (omega arith)

both : (a b : ℕ) → a < 2 → b < 2 → (min a b == 1) ≡ (a == 1 && b == 1)
both zero zero la lb = refl
both zero (suc zero) la lb = refl
both (suc zero) zero la lb = refl
both (suc zero) (suc zero) la lb = refl
both (suc (suc a)) b la lb = absurd (omega arith)
both a (suc (suc b)) la lb = absurd (omega arith)

one_alone : (a b : ℕ) → a < 2 → b < 2 → ((a + min a b) % 2 == 1) ≡ (a == 1 && not (b == 1))
one_alone zero zero la lb = refl
one_alone zero (suc zero) la lb = refl
one_alone (suc zero) zero la lb = refl
one_alone (suc zero) (suc zero) la lb = refl
one_alone (suc (suc a)) b la lb = absurd (omega arith)
one_alone a (suc (suc b)) la lb = absurd (omega arith)

bit_combined : (how : Combine) (a b r : ℕ) → (bit_at (combined how a b) r == 1) ≡ combined_bits how (bit_at a r == 1) (bit_at b r == 1)
bit_combined Either a b r = rw (bit_at_or a b r) (either (bit_at a r) (bit_at b r) (bit_at-lt a r) (bit_at-lt b r))
bit_combined Both a b r = rw (bit_at_and a b r) (both (bit_at a r) (bit_at b r) (bit_at-lt a r) (bit_at-lt b r))
bit_combined Without a b r = rw (bit_at_xor a (bit_and a b) r, bit_at_and a b r) (one_alone (bit_at a r) (bit_at b r) (bit_at-lt a r) (bit_at-lt b r))

none_of : (how : Combine) → combined_bits how false false ≡ false
none_of Either = refl
none_of Both = refl
none_of Without = refl

past_words : (words : List ℕ) (i : ℕ) → length words ≤ i / 64 → has_at words i ≡ false
past_words words i le =
    let out : slice_index words (i / 64) ≡ 0 = get_or_past words (i / 64) 0 le in
    rw (out, bit_at-zero (i % 64)) refl

pub has_combined : (how : Combine) (new to from : List ℕ) → length new ≡ length to → length to ≡ length from → ((k : ℕ) → k < length to → slice_index new k ≡ combined how (slice_index to k) (slice_index from k)) → (i : ℕ) → has_at new i ≡ combined_bits how (has_at to i) (has_at from i)
has_combined how new to from long same e i =
    elim (cases_lt (i / 64) (length to)) [
      | inl lt ↦ rw (e (i / 64) lt) (bit_combined how (slice_index to (i / 64)) (slice_index from (i / 64)) (i % 64))
      | inr le ↦
          let n = past_words new i (omega arith) in
          let t = past_words to i le in
          let f = past_words from i (omega arith) in
          n ∙ sym (rw (t, f) (none_of how))
    ]

same_maps : (f g : ℕ → Bool) (xs : List ℕ) → ((i : ℕ) → f i ≡ g i) → map f xs ≡ map g xs
same_maps f g [] e = refl
same_maps f g (x ∷ xs) e = rw (e x, same_maps f g xs e) refl

pub combined_bools : (how : Combine) (new to from : List ℕ) (width : ℕ) → ((i : ℕ) → has_at new i ≡ combined_bits how (has_at to i) (has_at from i)) → bools new width ≡ zip2 (combined_bits how) (bools to width) (bools from width)
combined_bools how new to from width e =
    let vs = range_with_len 0 width in
    rw (zip2-map (combined_bits how) (has_at to) (has_at from) vs) (same_maps (has_at new) (λ i. combined_bits how (has_at to i) (has_at from i)) vs e)

pub past_combined : (how : Combine) (to from : List ℕ) (i : ℕ) → has_at to i ≡ false → has_at from i ≡ false → combined_bits how (has_at to i) (has_at from i) ≡ false
past_combined how to from i t f = rw (t, f) (none_of how)

-- two sets with as many Bools have one width
pub same_width : (xs ys : List ℕ) (m n : ℕ) → length (bools xs m) ≡ length (bools ys n) → m ≡ n
same_width xs ys m n e =
    let a = length-map-range_with_len (has_at xs) 0 m in
    let b = length-map-range_with_len (has_at ys) 0 n in
    omega arith

-- what a vector has after a slice of all of it was written
pub written_back : (n : ℕ) (ys rest : List ℕ) → length ys ≡ n → take n (ys ++ rest) ≡ ys
written_back n ys rest e = take_at ys rest n e

pub next_some : (words : List ℕ) (width from : ℕ) (self : List Bool) (h : ℕ) → bools words width ≡ self → ((k : ℕ) → width ≤ k → has_at words k ≡ false) → (from ≤ h) × (has_at words h ≡ true) × ((i : ℕ) → from ≤ i → i < h → has_at words i ≡ false) → (from ≤ h) × (is_in self h ≡ true) × ((i : ℕ) → from ≤ i → i < h → is_in self i ≡ false)
next_some words width from self h v past e = (e.0, rw (← v) (has_bools words width h past ∙ e.1), λ i low high. rw (← v) (has_bools words width i past ∙ e.2 i low high))

pub next_none : (words : List ℕ) (width from : ℕ) (self : List Bool) → bools words width ≡ self → ((k : ℕ) → width ≤ k → has_at words k ≡ false) → ((i : ℕ) → from ≤ i → has_at words i ≡ false) → (i : ℕ) → from ≤ i → is_in self i ≡ false
next_none words width from self v past e i low = rw (← v) (has_bools words width i past ∙ e i low)

below_width : (words : List ℕ) (width h : ℕ) → ((k : ℕ) → width ≤ k → has_at words k ≡ false) → has_at words h ≡ true → h < width
below_width words width h past is =
    elim (cases_lt h width) [
      | inl lt ↦ lt
      | inr le ↦ absurd (differ (sym is ∙ past h le))
    ]
  where
    differ : true ≡ false → ⊥
    differ e = search rules

pub nth_some : (words : List ℕ) (width before : ℕ) (self : List Bool) (h : ℕ) → bools words width ≡ self → ((k : ℕ) → width ≤ k → has_at words k ≡ false) → (has_at words h ≡ true) × (members words h ≡ before) → (is_in self h ≡ true) × (count_by (λ b. b) (take h self) ≡ before)
nth_some words width before self h v past e =
    let lt = below_width words width h past e.0 in
    let cut = take-map-range_with_len (has_at words) 0 width h (omega arith) in
    (rw (← v) (has_bools words width h past ∙ e.0), rw (← v) (rw cut e.1))

pub count_is : (words : List ℕ) (width n : ℕ) (self : List Bool) → bools words width ≡ self → width ≤ n → ((k : ℕ) → width ≤ k → has_at words k ≡ false) → members words n ≡ count_by (λ b. b) self
count_is words width n self v le past = rw (← v) (members_past words width n le past)

none_any : (f : ℕ → Bool) (a n : ℕ) → ((j : ℕ) → f j ≡ false) → list_any (λ b. b) (map f (range_with_len a n)) ≡ false
none_any f a zero e = refl
none_any f a (suc n) e = rw (e a, none_any f (a + 1) n e) refl

pub some_none : (words : List ℕ) (width : ℕ) (self : List Bool) → bools words width ≡ self → ((i : ℕ) → 0 ≤ i → has_at words i ≡ false) → has_some self ≡ false
some_none words width self v e = rw (← v) (none_any (has_at words) 0 width (λ i. e i (omega arith)))

zero_words : (n i : ℕ) → slice_index (replicate n 0) i ≡ 0
zero_words zero i = refl
zero_words (suc n) zero = refl
zero_words (suc n) (suc i) = zero_words n i

pub nothing_at : (n i : ℕ) → has_at (replicate n 0) i ≡ false
nothing_at n i = rw (zero_words n (i / 64), bit_at-zero (i % 64)) refl

-- tests that all numbers below the width pass alike
pub constant : (words : List ℕ) (width : ℕ) (b : Bool) → ((i : ℕ) → i < width → has_at words i ≡ b) → bools words width ≡ replicate width b
constant words width b e = sym (fill_by_all (has_at words) (replicate width b) width false (length-replicate width b) (λ k lt. get_or-replicate width k b false lt ∙ sym (e k lt)))

pub full_past : (words : List ℕ) (width : ℕ) → ((i : ℕ) → i < 64 * length words → has_at words i ≡ nat_lt i width) → (i : ℕ) → width ≤ i → has_at words i ≡ false
full_past words width e i le =
    elim (cases_lt (i / 64) (length words)) [
      | inl lt ↦ e i (omega arith) ∙ le-ltb i width le
      | inr past ↦ past_words words i past
    ]

pub full_below : (words : List ℕ) (width : ℕ) → length words ≡ (width + 63) / 64 → ((i : ℕ) → i < 64 * length words → has_at words i ≡ nat_lt i width) → (i : ℕ) → i < width → has_at words i ≡ true
full_below words width long e i lt = e i (omega arith) ∙ lt-ltb i width lt

pub some_some : (words : List ℕ) (width h : ℕ) (self : List Bool) → bools words width ≡ self → ((k : ℕ) → width ≤ k → has_at words k ≡ false) → has_at words h ≡ true → has_some self ≡ true
some_some words width h self v past is =
    let lt = below_width words width h past is in
    let long = length-map-range_with_len (has_at words) 0 width in
    rw (← v) (list_any_at (λ b. b) (bools words width) h false (omega arith) (has_bools words width h past ∙ is))

pub empty_is : (items : List ℕ) (n width : ℕ) → items ≡ replicate n 0 → bools items width ≡ replicate width false
empty_is items n width e = rw e (constant (replicate n 0) width false (λ i lt. nothing_at n i))
