-- A set of numbers below a width as words of 64 bits.
use Rattle.std.specs.Prelude.{◌≡◌, ◌<◌, ◌≤◌, ◌*◌, ℕ, ◌/◌, ◌%◌, ◌==◌, true, List, Bool, map, count_by, slice_index, bit_and, bit_or, bit_xor, ◌&&◌, ◌||◌, not}
use Rattle.std.specs.Int.{bit_at}
use Rattle.std.specs.List.{range_with_len}
use Rattle.pb_planes.specs.declared.words.Combine.{Combine}
use Rattle.pb_planes.specs.declared.words.Combine.TheVariants.{Either, Both, Without}

-- two words as one
abbrev pub combined : Combine → ℕ → ℕ → ℕ
combined Either mine its = bit_or mine its
combined Both mine its = bit_and mine its
combined Without mine its = bit_xor mine (bit_and mine its)

-- two Bools as one
abbrev pub combined_bits : Combine → Bool → Bool → Bool
combined_bits Either mine its = mine || its
combined_bits Both mine its = mine && its
combined_bits Without mine its = mine && not its

-- bit i of the words
abbrev pub has_at : List ℕ → ℕ → Bool
has_at words i = bit_at (slice_index words (i / 64)) (i % 64) == 1

-- the bits below the width
abbrev pub bools : List ℕ → ℕ → List Bool
bools words width = map (has_at words) (range_with_len 0 width)

-- how many of the first bits are set
abbrev pub members : List ℕ → ℕ → ℕ
members words width = count_by (λ b. b) (bools words width)

-- the bits of a word below a place
abbrev pub bits_below : ℕ → ℕ → List Bool
bits_below word at = map (λ j. bit_at word j == 1) (range_with_len 0 at)

-- how many of a word's bits below a place are set
abbrev pub ones_below : ℕ → ℕ → ℕ
ones_below word at = count_by (λ b. b) (bits_below word at)

-- each bit that is set lies in a word from the first on and below the second
abbrev pub AreBetween : List ℕ → ℕ → ℕ → Type 0
AreBetween words low high = (i : ℕ) → has_at words i ≡ true → (64 * low ≤ i) × (i < 64 * high)
