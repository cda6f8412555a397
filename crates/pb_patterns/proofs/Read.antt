-- The pattern that is built for an expression matches at the beginning of a name where the expression, as its grammar reads it, does.
use Rattle.std.proofs.Common.{◌≡◌, ◌<◌, ◌∙◌, ℕ, List, Option, Some, None, get_or, option_map, refl, sym, ap}
use Rattle.std.specs.Prelude.{◌==◌, Bool, true, false}
use Rattle.std.specs.Option.{option_map_or}
use Rattle.std.specs.Str.{chars}
use Rattle.regex.proofs.ForCallers.{alike_as_written, span_alike}
use Rattle.regex.proofs.OnLiterals.{IsReadAs, same_refl}
use Rattle.regex.specs.Patterns.{Match, Re, Reads, default_config, find_str, span}
use Rattle.regex.specs.Strings.{regex_pattern, regex_source, IsReadFromSource}
use Rattle.regex.specs.declared.string.regex.Regex.{Regex}
use Rattle.regex_syntax.specs.Brackets.{Nested}
use Rattle.regex_syntax.specs.Grammar.{Names, read}
use Rattle.pb_patterns.specs.Built.{IsRegexOf}
use Rattle.pb_patterns.specs.Sets.{begins_at_first, begins_as, starts}

abbrev first_span : Option (ℕ × ℕ) → Bool
first_span o = option_map_or (λ (s : ℕ × ℕ). s.0 == 0) o false

at_span : (o : Option Match) → begins_at_first o ≡ first_span (option_map span o)
at_span None = refl
at_span (Some m) = refl

-- a text for which a pattern was built is read
not_read : (r : Regex) → IsRegexOf (regex_source r) r → read default_config (chars (regex_source r)) ≡ None → ⊥
unfolding Reads
not_read r of none = rw (of.1, none) at of.2

pub begins_read : (r : Regex) → IsRegexOf (regex_source r) r → (name : List ℕ) → ((k : ℕ) → get_or name k 0 < 256) → starts (regex_pattern r) name ≡ begins_as (regex_source r) name
unfolding begins_as
begins_read r of name bytes = by_read (read default_config (chars (regex_source r))) refl
  where
    by_read : (o : Option (Nested Re × Names)) → read default_config (chars (regex_source r)) ≡ o
        → starts (regex_pattern r) name ≡ option_map_or (λ (pattern : Re). starts pattern name) (option_map (λ (found : Nested Re × Names). found.0.value) o) false
    by_read None none = absurd (not_read r of none)
    by_read (Some found) is =
        let read_as : IsReadAs default_config (regex_source r) found.0.value = rw is (same_refl found.0.value) in
        let same = alike_as_written r default_config (regex_source r) of.0 of.1 of.2 found.0.value read_as in
        at_span (find_str (regex_pattern r) name 0) ∙ ap first_span (span_alike same name bytes true 0) ∙ sym (at_span (find_str found.0.value name 0))
