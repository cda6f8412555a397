-- The hosts of a play: a pattern, which a text spells, or the texts of a list, taken together.
-- See Ansible's documentation, "Patterns: targeting hosts and groups".
use Rattle.std.specs.Prelude.{ℕ, Bool, false, ◌||◌, List, [], ◌∷◌, ◌++◌, Result, Ok, Err, codes, nat_eq, if◌then◌else◌}
use Rattle.std.specs.List.{starts_with, list_any}
use Rattle.serde_json.specs.Data as json
use Rattle.pb_value.specs.Reading.{and_then}
use Rattle.pb_patterns.specs.Reading.{pattern_of, expressions_of}
use Rattle.pb_patterns.specs.declared.element.Element.{Element}
use Rattle.pb_patterns.specs.declared.fault.PatFault.{PatFault}
use Rattle.pb_reading.specs.Reading.{Reading}
use Rattle.pb_written.specs.Texts.{texts}
use Rattle.pb_written.specs.declared.fault.LoadFault.{LoadFault}
use Rattle.pb_play_reading.specs.Refusals.{Placed, bad_pattern, met_at, met_behind}
use Rattle.pb_play_reading.specs.declared.hosts.PlayHosts.{PlayHosts}

-- `{{` stands somewhere in a text
abbrev pub has_braces : List ℕ → Bool
has_braces [] = false
has_braces (b ∷ bs) = starts_with nat_eq (b ∷ bs) (codes "{{") || has_braces bs

-- a pattern, as it was read: where it is none, for whatever cause, that is BadPattern
abbrev pub as_read : List ℕ → Result (List Element) PatFault → Reading (List Element) LoadFault
as_read path (Ok elements) = Ok elements
as_read path (Err e) = Err (bad_pattern path)

-- the pattern that texts spell, taken together; `{{` may stand in none of them
abbrev pub pattern : List ℕ → List (List ℕ) → Reading (List Element) LoadFault
pattern path ts = if list_any has_braces ts then Err (bad_pattern path) else as_read path (pattern_of ts)

-- the regular expressions that are met in it
abbrev pub expressions_in : List (List ℕ) → List (List ℕ)
expressions_in ts = if list_any has_braces ts then [] else expressions_of ts

-- texts, each behind a `,`
abbrev pub behind_commas : List (List ℕ) → List ℕ
behind_commas [] = []
behind_commas (t ∷ ts) = 44 ∷ (t ++ behind_commas ts)

-- texts as they are written, with `,` between
abbrev pub joined : List (List ℕ) → List ℕ
joined [] = []
joined (t ∷ ts) = t ++ behind_commas ts

-- the kinds of all values come first, and then what the texts mean
abbrev pub hosts : List ℕ → json.Data → Reading PlayHosts LoadFault
hosts path d = and_then (texts path d) (λ ts. and_then (pattern path ts) (λ elements. Ok (record { text = joined ts; pattern = elements })))

-- the regular expressions that are met in them
abbrev pub expressions_of_hosts : List ℕ → json.Data → List Placed
expressions_of_hosts path d = met_behind (texts path d) (λ ts. met_at path (expressions_in ts))
