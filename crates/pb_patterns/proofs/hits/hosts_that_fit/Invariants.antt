use Rattle.std.proofs.Common.{◌≡◌, take, map}
use Rattle.std.specs.Str.{chars}
use Rattle.pb_patterns.specs.Globs.{fits}
use Rattle.pb_patterns.proofs.hits.hosts_that_fit.Given as goal

abbrev pub invariant-loop-host : goal.invariant-loop-host
invariant-loop-host l = l.hits.items ≡ map (λ name. fits l.term (chars name)) (take l.host l.inventory.hosts)
