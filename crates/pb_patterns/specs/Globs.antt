-- Names with `*` and `?` in them, character by character.
use Rattle.std.specs.Prelude.{ℕ, Bool, true, false, ◌&&◌, ◌||◌, ◌==◌, List, [], ◌∷◌, if◌then◌else◌}
use Rattle.std.specs.List.{list_any}
use Rattle.std.specs.Str.{chars}

-- some end of the characters fits: all of them, or what follows the first few
abbrev pub some_end : (List ℕ → Bool) → List ℕ → Bool
some_end fits [] = fits []
some_end fits (c ∷ cs) = fits (c ∷ cs) || some_end fits cs

-- the first character is this one, or `?` stands for it, and the others fit
abbrev pub one_then : ℕ → (List ℕ → Bool) → List ℕ → Bool
one_then p fits [] = false
one_then p fits (c ∷ cs) = (p == 63 || p == c) && fits cs

-- whether there are no characters
abbrev pub is_none : List ℕ → Bool
is_none [] = true
is_none (c ∷ cs) = false

-- whether all the characters fit: `*` stands for any of them, `?` for one, and each other character for itself
abbrev pub fits : List ℕ → List ℕ → Bool
fits [] cs = is_none cs
fits (p ∷ ps) cs = if p == 42 then some_end (fits ps) cs else one_then p (fits ps) cs

-- the same of a term and a name, as bytes
unfoldable pub glob : List ℕ → List ℕ → Bool
glob term name = fits (chars term) (chars name)

-- whether a `*` or `?` stands in a term
abbrev pub is_wild : List ℕ → Bool
is_wild term = list_any (λ b. b == 42 || b == 63) term
