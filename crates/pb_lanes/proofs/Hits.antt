-- What the bits say of 64 bytes that are compared with one.
use Rattle.std.proofs.Common.{◌≡◌, ◌≢◌, ◌<◌, ◌≤◌, ◌∙◌, ◌+◌, ◌*◌, ◌/◌, ◌%◌, ℕ, List, Bool, true, false, cond, map, length, slice_index, arith, refl, sym, subst, inl, inr}
use Rattle.std.specs.Prelude.{◌==◌}
use Rattle.std.specs.Int.{bit_at}
use Rattle.std.specs.Simd.Lanes.{chunk, mask_l}
use Rattle.std.proofs.lemmas.Simd.{bit_mask_l, length-chunk, get_or-chunk}
use Rattle.std.proofs.lemmas.List.{get_or-map, ext_get_or, length-map}
use Rattle.std.proofs.lemmas.Bool.{cases_lt}
use Rattle.pb_planes.specs.Set.{is_in}
use Rattle.pb_lanes.specs.Bytes.{is_byte}

one_if : (b : Bool) → (cond b 1 0 == 1) ≡ b
one_if true = refl
one_if false = refl

-- the bits of 64 bytes from 64 times a number on
abbrev pub bits : List ℕ → ℕ → ℕ → ℕ
bits bytes index byte = mask_l (map (is_byte byte) (chunk (64 * index) 64 bytes))

pub bit_is : (bytes : List ℕ) (index byte j : ℕ) → 64 * index + 64 ≤ length bytes → j < 64 → (bit_at (bits bytes index byte) j == 1) ≡ is_byte byte (slice_index bytes (64 * index + j))
bit_is bytes index byte j room lt =
    let those = chunk (64 * index) 64 bytes in
    let long = length-chunk (64 * index) 64 bytes room in
    let bit = bit_mask_l (map (is_byte byte) those) j in
    let here = get_or-map (is_byte byte) those j 0 false (omega (arith, long, lt)) in
    let there = get_or-chunk (64 * index) 64 bytes j 0 lt in
    rw (bit, here, there) (one_if (is_byte byte (slice_index bytes (64 * index + j))))

-- the places below a number are in the set as their bytes say
abbrev pub IsSelectedTo : List ℕ → ℕ → List Bool → ℕ → Type 0
IsSelectedTo bytes byte set at = (i : ℕ) → i < at → is_in set i ≡ is_byte byte (slice_index bytes i)

pub more : (bytes : List ℕ) (byte : ℕ) (old new : List Bool) (index word : ℕ) → IsSelectedTo bytes byte old (64 * index)
    → ((j : ℕ) → j < 64 → (bit_at word j == 1) ≡ is_byte byte (slice_index bytes (64 * index + j)))
    → ((j : ℕ) → j < 64 → is_in new (64 * index + j) ≡ (bit_at word j == 1))
    → ((i : ℕ) → i / 64 ≢ index → is_in new i ≡ is_in old i)
    → IsSelectedTo bytes byte new (64 * (index + 1))
more bytes byte old new index word before from_word inside others i lt =
    elim (cases_lt i (64 * index)) [
      | inl below ↦ others i (λ e. omega (arith, e, below)) ∙ before i below
      | inr from ↦
          let j = i % 64 in
          let e : 64 * index + j ≡ i = omega arith in
          subst (λ k. is_in new k ≡ is_byte byte (slice_index bytes k)) e (inside j (omega arith) ∙ from_word j (omega arith))
    ]

pub all_selected : (bytes : List ℕ) (byte : ℕ) (set : List Bool) → length set ≡ length bytes → IsSelectedTo bytes byte set (length bytes) → set ≡ map (is_byte byte) bytes
all_selected bytes byte set long each =
    let wide = length-map bytes (is_byte byte) in
    ext_get_or false set (map (is_byte byte) bytes) (omega (arith, wide, long))
    (λ i lt. each i (omega (arith, long, lt)) ∙ sym (get_or-map (is_byte byte) bytes i 0 false (omega (arith, long, lt))))
