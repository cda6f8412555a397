-- A walk over words, from one place to the next.
use Rattle.std.proofs.Common.{◌≡◌, ◌<◌, ◌≤◌, ◌+◌, ◌*◌, ◌/◌, ◌%◌, ◌-◌, ℕ, List, Bool, true, false, length, slice_index, arith, rules, refl, inl, inr}
use Rattle.std.specs.Prelude.{◌==◌}
use Rattle.std.specs.Int.{bit_at}
use Rattle.std.proofs.lemmas.Nat.Bits.{bit_at-zero}
use Rattle.std.proofs.lemmas.List.{get_or_past}
use Rattle.std.proofs.lemmas.Bool.{cases_lt}
use Rattle.pb_planes.specs.Words.{has_at}

pub shows : (words : List ℕ) (i q r : ℕ) → i ≡ q * 64 + r → r < 64 → has_at words i ≡ (bit_at (slice_index words q) r == 1)
shows words i q r e lt =
    let a : i / 64 ≡ q = omega arith in
    let b : i % 64 ≡ r = omega arith in
    rw (a, b) refl

pub shown_true : (words : List ℕ) (q r : ℕ) → r < 64 → bit_at (slice_index words q) r ≡ 1 → has_at words (q * 64 + r) ≡ true
shown_true words q r lt one = let s = shows words (q * 64 + r) q r refl lt in rw (s, one) refl

pub clear_on : (words : List ℕ) (from q start j : ℕ) → j ≤ 64 → ((i : ℕ) → start ≤ i → i < j → bit_at (slice_index words q) i ≡ 0) → ((i : ℕ) → from ≤ i → i < q * 64 + start → has_at words i ≡ false) → (i : ℕ) → from ≤ i → i < q * 64 + j → has_at words i ≡ false
clear_on words from q start j small zero before i low high =
    elim (cases_lt i (q * 64 + start)) [
      | inl lt ↦ before i low lt
      | inr le ↦
          let r = i - q * 64 in
          let s = shows words i q r (omega arith) (omega arith) in
          let z = zero r (omega arith) (omega arith) in
          rw (s, z) refl
    ]

pub clear_past : (words : List ℕ) (from q start : ℕ) → length words ≤ q → ((i : ℕ) → from ≤ i → i < q * 64 + start → has_at words i ≡ false) → (i : ℕ) → from ≤ i → has_at words i ≡ false
clear_past words from q start past before i low =
    elim (cases_lt i (q * 64 + start)) [
      | inl lt ↦ before i low lt
      | inr le ↦
          let out : slice_index words (i / 64) ≡ 0 = get_or_past words (i / 64) 0 (omega arith) in
          let z = bit_at-zero (i % 64) in
          rw (out, z) refl
    ]
