-- The tokens of a line's members.
use Rattle.std.specs.Prelude.{ℕ, List, [], ◌∷◌, ◌++◌}
use Rattle.json.specs.Token.{Token}
use Rattle.pb_value.specs.Datum.{Datum}
use Rattle.pb_compact.specs.Tokens.{tokens_of}

-- without the closing bracket
abbrev pub tokens_in : List (List ℕ × Datum) → List Token
tokens_in [] = []
tokens_in (m ∷ ms) = Token.key m.0 ∷ (tokens_of m.1 ++ tokens_in ms)
