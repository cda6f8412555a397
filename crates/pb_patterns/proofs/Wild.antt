-- Whether one of two bytes stands among others.
use Rattle.std.proofs.Common.{◌≡◌, ℕ, ◌==◌, Bool, true, false, List, [], ◌∷◌, refl, ap, sym, ◌∙◌}
use Rattle.std.specs.Prelude.{◌||◌}
use Rattle.std.specs.List.{list_any}
use Rattle.pb_patterns.specs.Globs.{is_wild}

shifted : (a b c d : Bool) → (a || b) || (c || d) ≡ (a || c) || (b || d)
shifted true b c d = refl
shifted false true true d = refl
shifted false true false d = refl
shifted false false true d = refl
shifted false false false d = refl

either : (bs : List ℕ) → is_wild bs ≡ (list_any (λ b. b == 42) bs || list_any (λ b. b == 63) bs)
either [] = refl
either (b ∷ bs) = ap (λ (r : Bool). (b == 42 || b == 63) || r) (either bs) ∙ shifted (b == 42) (b == 63) (list_any (λ c. c == 42) bs) (list_any (λ c. c == 63) bs)

pub wild_first : (bs : List ℕ) (r : Bool) → r ≡ list_any (λ b. b == 42) bs → r ≡ true → true ≡ is_wild bs
wild_first bs r is found = sym (either bs ∙ ap (λ (t : Bool). t || list_any (λ b. b == 63) bs) (sym is ∙ found))

pub wild_second : (bs : List ℕ) (r s : Bool) → r ≡ list_any (λ b. b == 42) bs → r ≡ false → s ≡ list_any (λ b. b == 63) bs → s ≡ is_wild bs
wild_second bs r s is none more = more ∙ sym (either bs ∙ ap (λ (t : Bool). t || list_any (λ b. b == 63) bs) (sym is ∙ none))
