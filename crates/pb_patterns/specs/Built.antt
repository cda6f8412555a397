-- The patterns that are built for regular expressions.
use Rattle.std.specs.Prelude.{◌≡◌, ℕ, List, Option, Some, None}
use Rattle.regex.specs.Patterns.{default_config}
use Rattle.regex.specs.Strings.{regex_source, regex_config, IsReadFromSource}
use Rattle.regex.specs.declared.string.regex.Regex.{Regex}
use Rattle.pb_patterns.specs.declared.element.What.{What}
use Rattle.pb_patterns.specs.declared.element.What.TheVariants as what

-- the regex crate built this for the text
abbrev pub IsRegexOf : List ℕ → Regex → Type 0
IsRegexOf source r = (regex_source r ≡ source) × (regex_config r ≡ default_config) × IsReadFromSource r

-- an element with a regular expression has the pattern that was built for it
abbrev pub IsBuilt : What → Option Regex → Type 0
IsBuilt (what.Term term subscript) regex = Unit {0}
IsBuilt (what.Regex source) (Some r) = IsRegexOf source r
IsBuilt (what.Regex source) None = ⊥
