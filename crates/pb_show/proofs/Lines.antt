-- How bytes are cut into lines, one after another.
use Rattle.std.proofs.Common.{◌≡◌, ℕ, ◌<◌, Bool, true, false, cond, List, [], ◌∷◌, length, refl, ap, arith}
use Rattle.std.specs.Prelude.{◌==◌}
use Rattle.std.specs.Io.BufRead.{take_through, drop_through}
use Rattle.pb_show.specs.Whole.{with_byte, lines_in}

cut_last : (t : Bool) (b : ℕ) → cond t ((b ∷ []) ∷ []) ((b ∷ []) ∷ []) ≡ cond t (b ∷ []) (b ∷ []) ∷ lines_in (cond t [] [])
cut_last true b = refl
cut_last false b = refl

cut_more : (t : Bool) (b : ℕ) (bs first rest : List ℕ) → lines_in bs ≡ first ∷ lines_in rest → cond t ((b ∷ []) ∷ lines_in bs) (with_byte b (lines_in bs)) ≡ cond t (b ∷ []) (b ∷ first) ∷ lines_in (cond t bs rest)
cut_more true b bs first rest e = refl
cut_more false b bs first rest e = ap (with_byte b) e

pub lines_cut : (b : ℕ) (bs : List ℕ) → lines_in (b ∷ bs) ≡ take_through 10 (b ∷ bs) ∷ lines_in (drop_through 10 (b ∷ bs))
lines_cut b [] = cut_last (b == 10) b
lines_cut b (b2 ∷ bs) = cut_more (b == 10) b (b2 ∷ bs) (take_through 10 (b2 ∷ bs)) (drop_through 10 (b2 ∷ bs)) (lines_cut b2 bs)

-- the line that was read is the first of those that are left
pub first_cut : (line bytes : List ℕ) → line ≡ take_through 10 bytes → 0 < length line → lines_in bytes ≡ line ∷ lines_in (drop_through 10 bytes)
first_cut line [] e some = absurd (let n : length line ≡ 0 = ap length e in omega arith)
first_cut line (b ∷ bs) e some = rw e (lines_cut b bs)
