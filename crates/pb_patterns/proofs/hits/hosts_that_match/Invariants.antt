use Rattle.std.proofs.Common.{◌≡◌, take, map}
use Rattle.regex.specs.Strings.{regex_pattern, regex_source, matcher_pattern}
use Rattle.pb_patterns.specs.Sets.{begins_as}
use Rattle.pb_patterns.proofs.hits.hosts_that_match.Given as goal

abbrev pub invariant-loop-host : goal.invariant-loop-host
invariant-loop-host l = (l.hits.items ≡ map (begins_as (regex_source l.regex)) (take l.host l.inventory.hosts)) × (matcher_pattern l.matcher ≡ regex_pattern l.regex)
