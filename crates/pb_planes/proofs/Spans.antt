-- Between which words bits lie.
use Rattle.std.proofs.Common.{◌≡◌, ◌≢◌, ◌⊎◌, ◌<◌, ◌≤◌, ◌+◌, ◌*◌, ◌/◌, ◌%◌, ◌∙◌, ℕ, List, Bool, true, false, slice_index, arith, rules, refl, ap, sym, inl, inr}
use Rattle.std.proofs.lemmas.Nat.Bits.{bit_at-zero}
use Rattle.std.proofs.lemmas.Bool.{cases_lt}
use Rattle.pb_planes.specs.declared.words.Combine.{Combine}
use Rattle.pb_planes.specs.declared.words.Combine.TheVariants.{Either, Both, Without}
use Rattle.pb_planes.specs.Words.{has_at, combined_bits, AreBetween}
use Rattle.pb_planes.proofs.Put.{cases_eq}

unset : (b : Bool) → (b ≡ true → ⊥) → b ≡ false
unset true never = absurd (never refl)
unset false never = refl

-- outside no bit is set
pub none_below : (words : List ℕ) (low high i : ℕ) → AreBetween words low high → i < 64 * low → has_at words i ≡ false
none_below words low high i between less = unset (has_at words i) (λ set. omega (arith, less, between i set))

pub none_above : (words : List ℕ) (low high i : ℕ) → AreBetween words low high → 64 * high ≤ i → has_at words i ≡ false
none_above words low high i between more = unset (has_at words i) (λ set. omega (arith, more, between i set))

-- what no bit inside is, none is anywhere
pub nowhere : (words : List ℕ) (low high i : ℕ) → AreBetween words low high → (64 * low ≤ i → i < 64 * high → has_at words i ≡ false) → has_at words i ≡ false
nowhere words low high i between none =
    elim (cases_lt i (64 * low)) [
      | inl less ↦ none_below words low high i between less
      | inr more ↦
          elim (cases_lt i (64 * high)) [
            | inl inside ↦ none more inside
            | inr past ↦ none_above words low high i between past
          ]
    ]

-- the next bit from a number on, where the walk begins behind what has none
pub next_within : (words : List ℕ) (low high from start h : ℕ) → AreBetween words low high → from ≤ start → ((i : ℕ) → from ≤ i → i < start → i < 64 * low) → (start ≤ h) × (has_at words h ≡ true) × ((i : ℕ) → start ≤ i → i < h → has_at words i ≡ false)
    → (from ≤ h) × (has_at words h ≡ true) × ((i : ℕ) → from ≤ i → i < h → has_at words i ≡ false)
next_within words low high from start h between ahead skipped found = (
  omega (arith, ahead, found.0),
  found.1,
  λ i more less.
      elim (cases_lt i start) [
        | inl before ↦ none_below words low high i between (skipped i more before)
        | inr behind ↦ found.2 i behind less
      ],
)

pub none_within : (words : List ℕ) (low high from start : ℕ) → AreBetween words low high → ((i : ℕ) → from ≤ i → i < start → i < 64 * low) → ((i : ℕ) → start ≤ i → i < 64 * high → has_at words i ≡ false) → (i : ℕ) → from ≤ i → has_at words i ≡ false
none_within words low high from start between skipped none i more =
    elim (cases_lt i start) [
      | inl before ↦ none_below words low high i between (skipped i more before)
      | inr behind ↦ nowhere words low high i between (λ least inside. none i behind inside)
    ]

-- a bit that is set
pub put_within : (old new : List ℕ) (low high low' high' h : ℕ) → ((k : ℕ) → k ≢ h → has_at new k ≡ has_at old k) → low' ≤ h / 64 → h / 64 < high' → (low < high → (low' ≤ low) × (high ≤ high')) → AreBetween old low high → AreBetween new low' high'
put_within old new low high low' high' h others first last more between i set =
    elim (cases_eq i h) [
      | inl same ↦ (omega (arith, first, same), omega (arith, last, same))
      | inr other ↦
          let was = between i (sym (others i other) ∙ set) in
          let wide = more (omega (arith, was)) in
          (omega (arith, was, wide), omega (arith, was, wide))
    ]

-- one that is cleared
differ : true ≡ false → ⊥
differ e = search rules

pub taken_within : (old new : List ℕ) (low high h : ℕ) → ((k : ℕ) → k ≢ h → has_at new k ≡ has_at old k) → has_at new h ≡ false → AreBetween old low high → AreBetween new low high
taken_within old new low high h others gone between i set =
    elim (cases_eq i h) [
      | inl same ↦ absurd (differ (sym set ∙ ap (has_at new) same ∙ gone))
      | inr other ↦ between i (sym (others i other) ∙ set)
    ]

-- a word that is put
pub word_within : (old new : List ℕ) (low high low' high' index : ℕ) → ((i : ℕ) → i / 64 ≢ index → has_at new i ≡ has_at old i) → low' ≤ index → index < high' → (low < high → (low' ≤ low) × (high ≤ high')) → AreBetween old low high → AreBetween new low' high'
word_within old new low high low' high' index others first last more between i set =
    elim (cases_eq (i / 64) index) [
      | inl same ↦ (omega (arith, first, same), omega (arith, last, same))
      | inr other ↦
          let was = between i (sym (others i other) ∙ set) in
          let wide = more (omega (arith, was)) in
          (omega (arith, was, wide), omega (arith, was, wide))
    ]

-- two sets as one
one_of : (how : Combine) (a b : Bool) → combined_bits how a b ≡ true → (a ≡ true) ⊎ (b ≡ true)
one_of how true b e = inl refl
one_of how false true e = inr refl
one_of Either false false e = inl e
one_of Both false false e = inl e
one_of Without false false e = inl e

pub combined_within : (how : Combine) (new to from : List ℕ) (low high low2 high2 low' high' : ℕ) → ((i : ℕ) → has_at new i ≡ combined_bits how (has_at to i) (has_at from i)) → (low' ≤ low) × (high ≤ high') → (low' ≤ low2) × (high2 ≤ high') → AreBetween to low high → AreBetween from low2 high2
    → AreBetween new low' high'
combined_within how new to from low high low2 high2 low' high' each one other mine its i set =
    elim (one_of how (has_at to i) (has_at from i) (sym (each i) ∙ set)) [
      | inl a ↦ let was = mine i a in (omega (arith, was, one), omega (arith, was, one))
      | inr b ↦ let was = its i b in (omega (arith, was, other), omega (arith, was, other))
    ]
