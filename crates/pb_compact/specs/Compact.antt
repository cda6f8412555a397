-- What the text of a value's tokens is.
use Rattle.std.specs.Prelude.{◌≡◌}
use Rattle.json.specs.Print.{print}
use Rattle.serde_json.specs.Written.{compact_text}
use Rattle.pb_value.specs.Datum.{Datum}
use Rattle.pb_value.specs.ToJson.{json_of}
use Rattle.pb_compact.specs.Tokens.{tokens_of}

-- the tokens of a value, written one behind the other, are its compact JSON
abbrev pub TokensAreCompact : Type 0
TokensAreCompact = (d : Datum) → print (tokens_of d) ≡ compact_text (json_of d)
