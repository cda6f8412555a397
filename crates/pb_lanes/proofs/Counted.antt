-- Counting from a place on.
use Rattle.std.proofs.Common.{◌≡◌, ◌<◌, ◌∙◌, ◌+◌, ℕ, List, true, false, cond, length, drop, count_by, slice_index, arith, refl, ap}
use Rattle.std.specs.List.{sum_by}
use Rattle.std.specs.Simd.Lanes.{chunk}
use Rattle.std.proofs.lemmas.Simd.{chunk-drop}
use Rattle.std.proofs.lemmas.List.Sums.{sum_by-append, sum_by-drop_more}
use Rattle.pb_lanes.specs.Bytes.{is_byte}

pub sum_from : (f : ℕ → ℕ) (xs : List ℕ) (at n : ℕ) → sum_by f (drop at xs) ≡ sum_by f (chunk at n xs) + sum_by f (drop (at + n) xs)
sum_from f xs at n = ap (sum_by f) (chunk-drop at n xs) ∙ sum_by-append f (chunk at n xs) (drop (at + n) xs)

pub count_from : (byte : ℕ) (bytes : List ℕ) (at n : ℕ) → count_by (is_byte byte) (drop at bytes) ≡ count_by (is_byte byte) (chunk at n bytes) + count_by (is_byte byte) (drop (at + n) bytes)
count_from byte bytes at n = sum_from (λ b. cond (is_byte byte b) 1 0) bytes at n

pub one_yes : (byte : ℕ) (bytes : List ℕ) (at : ℕ) → at < length bytes → is_byte byte (slice_index bytes at) ≡ true → count_by (is_byte byte) (drop at bytes) ≡ 1 + count_by (is_byte byte) (drop (at + 1) bytes)
one_yes byte bytes at lt e = sum_by-drop_more (λ b. cond (is_byte byte b) 1 0) bytes at 0 lt ∙ rw e refl

pub one_no : (byte : ℕ) (bytes : List ℕ) (at : ℕ) → at < length bytes → is_byte byte (slice_index bytes at) ≡ false → count_by (is_byte byte) (drop at bytes) ≡ count_by (is_byte byte) (drop (at + 1) bytes)
one_no byte bytes at lt e = sum_by-drop_more (λ b. cond (is_byte byte b) 1 0) bytes at 0 lt ∙ rw e (omega arith)
