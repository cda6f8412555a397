use Rattle.std.proofs.Common.{◌≡◌, take, map}
use Rattle.regex.specs.Strings.{regex_pattern, regex_source, matcher_pattern}
use Rattle.pb_patterns.specs.Sets.{begins_as}
use Rattle.pb_patterns.proofs.hits.groups_that_match.Given as goal

abbrev pub invariant-loop-group : goal.invariant-loop-group
invariant-loop-group l = (l.hits.items ≡ map (begins_as (regex_source l.regex)) (take l.group l.inventory.groups)) × (matcher_pattern l.matcher ≡ regex_pattern l.regex)
