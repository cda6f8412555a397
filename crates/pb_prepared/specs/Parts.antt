-- The text that a value is, and its parts, if it is a template.
use Rattle.std.specs.Prelude.{ℕ, List, [], Option, None}
use Rattle.pb_value.specs.Datum.{Datum, text}
use Rattle.pb_template.specs.declared.template.Part.{Part}
use Rattle.pb_template.specs.Computed.{template_of}

-- the bytes of a text
abbrev pub text_in : Datum → List ℕ
text_in (text s) = s
text_in d = []

-- the parts of a text; a value of another kind has none
abbrev pub parts_of : Datum → Option (List Part)
parts_of (text s) = template_of s
parts_of d = None
