-- The rows of all hosts before the run.
use Rattle.std.proofs.Common.{◌≡◌, ℕ, zero, suc, ◌+◌, [], ◌∷◌, ◌++◌, length, refl, ◌∙◌, ap, arith}
use Rattle.pb_host.specs.Host.{first_row, first_rows}

-- a row for each host
pub length-first : (h n : ℕ) → length (first_rows h n) ≡ n
length-first h zero = refl
length-first h (suc n) = ap suc (length-first (h + 1) n)

first_end : (h n : ℕ) → first_rows h (suc n) ≡ first_rows h n ++ first_row (h + n) ∷ []
first_end h zero = ap (λ k. first_row k ∷ []) (let same : h ≡ h + 0 = omega arith in same)
first_end h (suc n) = ap (λ rest. first_row h ∷ rest) (first_end (h + 1) n ∙ ap (λ k. first_rows (h + 1) n ++ first_row k ∷ []) (let same : (h + 1) + n ≡ h + suc n = omega arith in same))

pub first_more : (n : ℕ) → first_rows 0 (n + 1) ≡ first_rows 0 n ++ first_row n ∷ []
first_more n =
    ap (first_rows 0) (let one : n + 1 ≡ suc n = omega arith in one)
    ∙ first_end 0 n
    ∙ ap (λ k. first_rows 0 n ++ first_row k ∷ []) (let same : 0 + n ≡ n = omega arith in same)
