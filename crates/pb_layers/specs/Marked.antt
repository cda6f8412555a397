-- Names whose values have no expression in their texts, so that these are read as they are stored though their layer has templates.
use Rattle.std.specs.Prelude.{◌≡◌, ℕ, Bool, true, ◌==◌, ◌&&◌, ◌||◌, not, nat_lt, List, length, Option, Some, None}
use Rattle.std.specs.Str.{bytes_eq}
use Rattle.pb_value.specs.Datum.{Datum}
use Rattle.pb_template.specs.Plain.{is_plain}
use Rattle.pb_layers.specs.Scope.{Map, scope, with_seen, found, value_of, has_templates}

-- a value is plain, or there is none
abbrev pub is_plain_if : Option Datum → Bool
is_plain_if None = true
is_plain_if (Some v) = is_plain v

-- the value that maps have for a name, if they have one, is plain
abbrev pub has_plain : List Map → List ℕ → Bool
has_plain maps name = is_plain_if (value_of name maps)

-- what layers may be marked with: a name that has a plain value, or the empty text, which is no mark
abbrev pub is_mark : List Map → List ℕ → Bool
is_mark maps name = (length name == 0) || has_plain maps name

-- the name is the marked one; no name is where the mark is the empty text
abbrev pub is_marked : (mark : List ℕ) → List ℕ → Bool
is_marked mark name = nat_lt 0 (length mark) && bytes_eq mark name

-- what was found is read as it is stored: its layer has no templates, or it is plain
abbrev pub is_read_as_stored : Option (ℕ × Datum) → Bool
is_read_as_stored None = true
is_read_as_stored (Some f) = not (has_templates f.0) || is_plain f.1

-- so is what each scope over the layers has for the name
abbrev pub IsKnown : List Map → List ℕ → Type 0
IsKnown layers name = (seen : Option (List ℕ × Datum)) (magic variable : Map) → is_read_as_stored (found name (scope (with_seen seen layers) magic variable)) ≡ true
