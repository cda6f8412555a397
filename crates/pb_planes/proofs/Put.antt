-- A bit that is set or cleared, and the words of a full set.
use Rattle.std.proofs.Common.{◌≡◌, ◌≢◌, ◌⊎◌, ◌<◌, ◌≤◌, ◌∙◌, ◌+◌, ◌*◌, ◌/◌, ◌%◌, ◌-◌, ◌^◌, ℕ, List, Bool, true, false, length, slice_index, slice_set, nat_lt, arith, refl, subst, inl, inr, w64, bit_and, bit_or}
use Rattle.std.specs.Prelude.{◌==◌}
use Rattle.std.specs.Int.{bit_at}
use Rattle.std.proofs.lemmas.Nat.Bits.{bit_at_set_same, bit_at_set_other, bit_at_clear_same, bit_at_clear_other, bit_at_ones, bit_at_ones_above, bit_at-zero, ones_shr}
use Rattle.std.proofs.lemmas.List.{get_or-set_same, get_or-set_other}
use Rattle.std.proofs.lemmas.Bool.{cases_lt, lt-ltb, le-ltb}
use Rattle.pb_planes.specs.Words.{has_at}
use Rattle.pb_planes.proofs.Walked.{shows}

pub cases_eq : (m n : ℕ) → (m ≡ n) ⊎ (m ≢ n)
cases_eq m n =
    elim (cases_lt m n) [
      | inl a ↦ inr (λ e. omega (arith, a, e))
      | inr b ↦
          elim (cases_lt n m) [
            | inl c ↦ inr (λ e. omega (arith, c, e))
            | inr d ↦ inl (omega (arith, b, d))
          ]
    ]

-- the words with another word where bit i lies
abbrev pub with_word : List ℕ → ℕ → ℕ → List ℕ
with_word words i word = slice_set words (i / 64) word

bit_here : (words : List ℕ) (i word : ℕ) (b : Bool) → i < 64 * length words → (bit_at word (i % 64) == 1) ≡ b → has_at (with_word words i word) i ≡ b
bit_here words i word b lt e = rw (get_or-set_same words (i / 64) word 0 (omega arith)) e

bit_elsewhere : (words : List ℕ) (i word : ℕ) → ((r : ℕ) → r < 64 → r ≢ i % 64 → bit_at word r ≡ bit_at (slice_index words (i / 64)) r) → i < 64 * length words → (k : ℕ) → k ≢ i → has_at (with_word words i word) k ≡ has_at words k
bit_elsewhere words i word same lt k other =
    elim (cases_eq (k / 64) (i / 64)) [
      | inl e ↦
          let there = get_or-set_same words (i / 64) word 0 (omega arith) in
          let bit = same (k % 64) (omega arith) (λ r. other (omega (arith, e, r))) in
          rw (e, there, bit) refl
      | inr ne ↦
          let there = get_or-set_other words (i / 64) (k / 64) word 0 ne in
          rw there refl
    ]

abbrev pub set_word : ℕ → ℕ → ℕ
set_word word k = bit_or word (1 * 2 ^ k % 18446744073709551616)

abbrev pub cleared_word : ℕ → ℕ → ℕ
cleared_word word k = bit_and word (18446744073709551615 - 1 * 2 ^ k % 18446744073709551616)

pub set_here : (words : List ℕ) (i : ℕ) → i < 64 * length words → has_at (with_word words i (set_word (slice_index words (i / 64)) (i % 64))) i ≡ true
set_here words i lt = bit_here words i (set_word (slice_index words (i / 64)) (i % 64)) true lt (rw (bit_at_set_same w64 (slice_index words (i / 64)) (i % 64) (omega arith)) refl)

pub set_elsewhere : (words : List ℕ) (i : ℕ) → i < 64 * length words → (k : ℕ) → k ≢ i → has_at (with_word words i (set_word (slice_index words (i / 64)) (i % 64))) k ≡ has_at words k
set_elsewhere words i lt = bit_elsewhere words i (set_word (slice_index words (i / 64)) (i % 64)) (λ r le other. bit_at_set_other w64 (slice_index words (i / 64)) (i % 64) (omega arith) r other) lt

pub cleared_here : (words : List ℕ) (i : ℕ) → i < 64 * length words → has_at (with_word words i (cleared_word (slice_index words (i / 64)) (i % 64))) i ≡ false
cleared_here words i lt = bit_here words i (cleared_word (slice_index words (i / 64)) (i % 64)) false lt (rw (bit_at_clear_same w64 (slice_index words (i / 64)) (i % 64) (omega arith)) refl)

pub cleared_elsewhere : (words : List ℕ) (i : ℕ) → i < 64 * length words → (k : ℕ) → k ≢ i → has_at (with_word words i (cleared_word (slice_index words (i / 64)) (i % 64))) k ≡ has_at words k
cleared_elsewhere words i lt = bit_elsewhere words i (cleared_word (slice_index words (i / 64)) (i % 64)) (λ r le other. bit_at_clear_other w64 (slice_index words (i / 64)) (i % 64) (omega arith) r le other) lt

-- the words of a full set
pub nothing_left : (first width j : ℕ) → width ≤ first → (bit_at 0 j == 1) ≡ nat_lt (first + j) width
nothing_left first width j le = rw (bit_at-zero j, le-ltb (first + j) width (omega arith)) refl

pub all_left : (first width j : ℕ) → 64 ≤ width - first → j < 64 → (bit_at 18446744073709551615 j == 1) ≡ nat_lt (first + j) width
all_left first width j le lt = rw (bit_at_ones 64 j lt, lt-ltb (first + j) width (omega arith)) refl

pub some_left : (first width j : ℕ) → first < width → width - first < 64 → j < 64 → (bit_at (18446744073709551615 / 2 ^ (64 - (width - first))) j == 1) ≡ nat_lt (first + j) width
some_left first width j some few lt =
    let n = width - first in
    let word : 18446744073709551615 / 2 ^ (64 - n) ≡ 2 ^ (64 - (64 - n)) - 1 = ones_shr 64 (64 - n) (omega arith) in
    let e : 64 - (64 - n) ≡ n = omega arith in
    elim (cases_lt j n) [
      | inl a ↦ rw (word, e, bit_at_ones n j a, lt-ltb (first + j) width (omega arith)) refl
      | inr b ↦ rw (word, e, bit_at_ones_above n j b, le-ltb (first + j) width (omega arith)) refl
    ]

pub filled : (words : List ℕ) (width : ℕ) → ((k : ℕ) → k < length words → (j : ℕ) → j < 64 → (bit_at (slice_index words k) j == 1) ≡ nat_lt (k * 64 + j) width) → (i : ℕ) → i < 64 * length words → has_at words i ≡ nat_lt i width
filled words width each i lt =
    let e : i / 64 * 64 + i % 64 ≡ i = omega arith in
    subst (λ x. has_at words i ≡ nat_lt x width) e (each (i / 64) (omega arith) (i % 64) (omega arith))

-- one word in place of another
pub word_here : (words : List ℕ) (index word : ℕ) → index < length words → (j : ℕ) → j < 64 → has_at (slice_set words index word) (64 * index + j) ≡ (bit_at word j == 1)
word_here words index word lt j below =
    let there = shows (slice_set words index word) (64 * index + j) index j (omega arith) below in
    let same = get_or-set_same words index word 0 lt in
    there ∙ rw same refl

pub word_elsewhere : (words : List ℕ) (index word : ℕ) (i : ℕ) → i / 64 ≢ index → has_at (slice_set words index word) i ≡ has_at words i
word_elsewhere words index word i other = rw (get_or-set_other words index (i / 64) word 0 other) refl
