use Rattle.std.proofs.Common.{◌≡◌, take, map}
use Rattle.std.specs.Str.{chars}
use Rattle.pb_patterns.specs.Globs.{fits}
use Rattle.pb_patterns.proofs.hits.groups_that_fit.Given as goal

abbrev pub invariant-loop-group : goal.invariant-loop-group
invariant-loop-group l = l.hits.items ≡ map (λ name. fits l.term (chars name)) (take l.group l.inventory.groups)
