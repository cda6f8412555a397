-- How many bits of words are set, word by word.
use Rattle.std.proofs.Common.{◌≡◌, ◌<◌, ◌≤◌, ◌∙◌, ◌+◌, ◌*◌, ◌/◌, ◌%◌, ◌-◌, ◌^◌, ◌++◌, ℕ, zero, suc, List, [], ◌∷◌, Bool, true, false, cond, map, count_by, count_ones, length, take, slice_index, arith, rules, refl, sym, subst, inl, inr}
use Rattle.std.specs.Prelude.{◌==◌}
use Rattle.std.specs.Int.{bit_at}
use Rattle.std.specs.List.{range_with_len}
use Rattle.std.proofs.lemmas.Nat.{ones_le_self}
use Rattle.std.proofs.lemmas.Nat.Bits.{bit_at_lowest, bit_at-suc, bit_at-lt}
use Rattle.std.proofs.lemmas.List.Sums.{count_by-le-length}
use Rattle.std.proofs.lemmas.List.FromFn.{length-map-range_with_len, sum_by-map-range_with_len_more}
use lib.Count.{ones_step}
use Rattle.pb_planes.specs.Words.{has_at, members, ones_below, bits_below}
use Rattle.pb_planes.proofs.Walked.{shows}

-- how many of n numbers from a on pass a test
abbrev pub passing : (ℕ → Bool) → ℕ → ℕ → ℕ
passing f a n = count_by (λ b. b) (map f (range_with_len a n))

-- a yes counts for one
abbrev pub number_if : Bool → ℕ
number_if b = cond b 1 0

pub one_more : (f : ℕ → Bool) (a n : ℕ) → passing f a (n + 1) ≡ passing f a n + number_if (f (a + n))
one_more f a n = sum_by-map-range_with_len_more number_if f a n (a + n) refl

next : (f : ℕ → Bool) (a n : ℕ) → passing f a (suc n) ≡ passing f a n + number_if (f (a + n))
next f a n = let e : n + 1 ≡ suc n = omega arith in subst (λ x. passing f a x ≡ passing f a n + number_if (f (a + n))) e (one_more f a n)

-- the same tests over two ranges
pub shifted : (f g : ℕ → Bool) (a b n : ℕ) → ((j : ℕ) → j < n → f (a + j) ≡ g (b + j)) → passing f a n ≡ passing g b n
shifted f g a b zero e = refl
shifted f g a b (suc n) e =
    let here : f (a + n) ≡ g (b + n) = e n (omega arith) in
    let rest = shifted f g a b n (λ j lt. e j (omega arith)) in
    let last : number_if (f (a + n)) ≡ number_if (g (b + n)) = rw here refl in
    let left = next f a n in
    let right = next g b n in
    omega arith

-- a range in two parts
pub split : (f : ℕ → Bool) (a m n : ℕ) → passing f a (m + n) ≡ passing f a m + passing f (a + m) n
split f a m zero = let e : m ≡ m + 0 = omega arith in subst (λ x. passing f a x ≡ passing f a m + 0) e (omega arith)
split f a m (suc n) =
    let rest = split f a m n in
    let e : m + suc n ≡ suc (m + n) = omega arith in
    let left = next f a (m + n) in
    let right = next f (a + m) n in
    let at : a + (m + n) ≡ a + m + n = omega arith in
    let same : number_if (f (a + (m + n))) ≡ number_if (f (a + m + n)) = rw at refl in
    let all : passing f a (suc (m + n)) ≡ passing f a m + passing f (a + m) (suc n) = omega arith in
    subst (λ x. passing f a x ≡ passing f a m + passing f (a + m) (suc n)) (sym e) all

one_bit : (b : ℕ) → b < 2 → b ≡ number_if (b == 1)
one_bit zero lt = refl
one_bit (suc zero) lt = refl
one_bit (suc (suc b)) lt = absurd (omega arith)

-- a word's count is that of its bits
pub ones_of_bits : (k word : ℕ) → word < 2 ^ k → count_ones word ≡ ones_below word k
ones_of_bits zero word lt =
    let most = ones_le_self word in
    let none : count_ones word ≡ 0 = omega arith in
    none
ones_of_bits (suc k) word lt =
    let half = ones_of_bits k (word / 2) (omega arith) in
    let f : ℕ → Bool = λ j. bit_at word j == 1 in
    let parts : passing f 0 (1 + k) ≡ passing f 0 1 + passing f 1 k = split f 0 1 k in
    let e : 1 + k ≡ suc k = omega arith in
    let head : passing f 0 1 ≡ passing f 0 0 + number_if (bit_at word 0 == 1) = next f 0 0 in
    let nothing : passing f 0 0 ≡ 0 = refl in
    let first : passing f 0 1 ≡ number_if (bit_at word 0 == 1) = omega (arith, head, nothing) in
    let low = bit_at_lowest word in
    let bit = one_bit (bit_at word 0) (bit_at-lt word 0) in
    let moved : passing f 1 k ≡ ones_below (word / 2) k = shifted f (λ j. bit_at (word / 2) j == 1) 1 0 k (λ j lt. shift word j) in
    let step : count_ones word ≡ word % 2 + count_ones (word / 2) = ones_step word in
    let all : count_ones word ≡ passing f 0 (1 + k) = omega arith in
    subst (λ x. count_ones word ≡ passing f 0 x) e all
  where
    shift : (word j : ℕ) → (bit_at word (1 + j) == 1) ≡ (bit_at (word / 2) (0 + j) == 1)
    shift word j = let a : 1 + j ≡ suc j = omega arith in let b : 0 + j ≡ j = omega arith in rw (a, b, bit_at-suc word j) refl

pub ones_at_most : (word k : ℕ) → ones_below word k ≤ k
ones_at_most word k =
    let long = length-map-range_with_len (λ j. bit_at word j == 1) 0 k in
    let most = count_by-le-length (λ b. b) (bits_below word k) in
    omega arith

pub ones_of_word : (word : ℕ) → word < 2 ^ 64 → (count_ones word ≡ ones_below word 64) × (count_ones word ≤ 64)
ones_of_word word lt =
    let is = ones_of_bits 64 word lt in
    let most = ones_at_most word 64 in
    (is, omega arith)

-- one bit further
pub ones_more : (word j : ℕ) (b : Bool) → (bit_at word j == 1) ≡ b → ones_below word (j + 1) ≡ ones_below word j + number_if b
ones_more word j b e =
    let at : 0 + j ≡ j = omega arith in
    let more : ones_below word (j + 1) ≡ ones_below word j + number_if (bit_at word (0 + j) == 1) = one_more (λ i. bit_at word i == 1) 0 j in
    let here : number_if (bit_at word (0 + j) == 1) ≡ number_if b = rw (at, e) refl in
    omega (arith, more, here)

-- the bits of the words before one, and of this one up to a place
pub part_word : (words : List ℕ) (i r : ℕ) → r ≤ 64 → members words (i * 64 + r) ≡ members words (64 * i) + ones_below (slice_index words i) r
part_word words i r le =
    let parts : members words (i * 64 + r) ≡ members words (i * 64) + passing (has_at words) (0 + i * 64) r = split (has_at words) 0 (i * 64) r in
    let here : passing (has_at words) (0 + i * 64) r ≡ ones_below (slice_index words i) r = shifted (has_at words) (λ j. bit_at (slice_index words i) j == 1) (0 + i * 64) 0 r (λ j lt. bit j lt) in
    let e : i * 64 ≡ 64 * i = omega arith in
    let all : members words (i * 64 + r) ≡ members words (i * 64) + ones_below (slice_index words i) r = omega (arith, parts, here) in
    subst (λ x. members words (i * 64 + r) ≡ members words x + ones_below (slice_index words i) r) e all
  where
    bit : (j : ℕ) → j < r → has_at words (0 + i * 64 + j) ≡ (bit_at (slice_index words i) (0 + j) == 1)
    bit j lt = let b : 0 + j ≡ j = omega arith in rw b (shows words (0 + i * 64 + j) i j (omega arith) (omega arith))

pub whole_word : (words : List ℕ) (i : ℕ) → members words (64 * (i + 1)) ≡ members words (64 * i) + ones_below (slice_index words i) 64
whole_word words i = let a : i * 64 + 64 ≡ 64 * (i + 1) = omega arith in subst (λ x. members words x ≡ members words (64 * i) + ones_below (slice_index words i) 64) a (part_word words i 64 (omega arith))

-- no bit past the width: none more
none_past : (f : ℕ → Bool) (a n : ℕ) → ((j : ℕ) → a ≤ j → f j ≡ false) → passing f a n ≡ 0
none_past f a zero e = refl
none_past f a (suc n) e =
    let rest = none_past f a n e in
    let last : number_if (f (a + n)) ≡ 0 = rw (e (a + n) (omega arith)) refl in
    let more = next f a n in
    omega arith

pub members_past : (words : List ℕ) (width n : ℕ) → width ≤ n → ((j : ℕ) → width ≤ j → has_at words j ≡ false) → members words n ≡ members words width
members_past words width n le past =
    let rest = n - width in
    let all : n ≡ width + rest = omega arith in
    let parts : members words (width + rest) ≡ members words width + passing (has_at words) (0 + width) rest = split (has_at words) 0 width rest in
    let none : passing (has_at words) (0 + width) rest ≡ 0 = none_past (has_at words) (0 + width) rest (λ j le. past j (omega arith)) in
    let same : members words (width + rest) ≡ members words width = omega (arith, parts, none) in
    subst (λ x. members words x ≡ members words width) (sym all) same

-- all bits are looked at: a bit with so many below it was met
pub all_counted : (word before left j : ℕ) → j ≡ 64 → before < ones_below word 64 → left + ones_below word j ≡ before → ⊥
all_counted word before left j e lt inv =
    let here : left + ones_below word 64 ≡ before = subst (λ x. left + ones_below word x ≡ before) e inv in
    omega (arith, here, lt)
