-- Texts that stand behind others.
use Rattle.std.proofs.Common.{◌≡◌, ◌++◌, ◌∷◌, [], refl, sym, ℕ, List, Option, Some, None, ap, append_assoc}
use Rattle.std.specs.Prelude.{option_map}

pub behind_a_text : (words : List (List ℕ)) (s : List ℕ) (others : Option (List (List ℕ)))
    → option_map (λ texts. words ++ texts) (option_map (λ texts. s ∷ texts) others) ≡ option_map (λ texts. (words ++ s ∷ []) ++ texts) others
behind_a_text words s None = refl
behind_a_text words s (Some texts) = ap Some (sym (append_assoc words (s ∷ []) texts))

pub behind_nothing : (others : Option (List (List ℕ))) → others ≡ option_map (λ texts. [] ++ texts) others
behind_nothing None = refl
behind_nothing (Some texts) = refl
