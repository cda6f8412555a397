-- Line ends at the end of a text.
use Rattle.std.proofs.Common.{◌≡◌, ◌≢◌, ℕ, Bool, true, false, List, [], ◌∷◌, ◌++◌, refl, ap, sym, ◌∙◌, arith}
use Rattle.std.proofs.lemmas.Bool.Decides.{nat_tests}
use Rattle.std.specs.Str.Pattern.{StripsSuffix, FindsTextSuffix}
use Rattle.pb_outcome.specs.Output.{is_line_end, kept, stripped}

-- a line end at the end changes nothing
pub stripped-end : (s : List ℕ) (b : ℕ) → is_line_end b ≡ true → stripped (s ++ b ∷ []) ≡ stripped s
stripped-end [] b e = rw e refl
stripped-end (x ∷ xs) b e = ap (kept x) (stripped-end xs b e)

kept-alone : (b : ℕ) (t : Bool) → is_line_end b ≡ t → t ≡ false → kept b [] ≡ b ∷ []
kept-alone b true e f = cc
kept-alone b false e f = rw e refl

kept-one : (b : ℕ) → is_line_end b ≡ false → kept b [] ≡ b ∷ []
kept-one b e = rw e refl

no_line_end : (b : ℕ) → b ≢ 10 → b ≢ 13 → is_line_end b ≡ false
no_line_end b p q = grind (arith, nat_tests)

-- a text that doesn't end so is as it is
pub stripped-none : (s : List ℕ) → ((front : List ℕ) → s ≢ front ++ 10 ∷ []) → ((front : List ℕ) → s ≢ front ++ 13 ∷ []) → stripped s ≡ s
stripped-none [] p q = refl
stripped-none (b ∷ []) p q =
    kept-one b (no_line_end b (λ e. p [] (ap (λ x. x ∷ []) e)) (λ e. q [] (ap (λ x. x ∷ []) e)))
stripped-none (b ∷ c ∷ cs) p q =
    ap (kept b) (stripped-none (c ∷ cs) (λ front e. p (b ∷ front) (ap (λ t. b ∷ t) e)) (λ front e. q (b ∷ front) (ap (λ t. b ∷ t) e)))

-- what `strip_suffix` takes off a text, where that is a line end
pub stripped-suffix : (b : ℕ) → is_line_end b ≡ true → (s rest : List ℕ) → StripsSuffix (FindsTextSuffix (b ∷ [])) s rest → stripped s ≡ stripped rest
stripped-suffix b e s rest h = ap stripped h.1.1 ∙ ap (λ t. stripped (t ++ b ∷ [])) (sym h.2) ∙ stripped-end rest b e
