use Rattle.std.proofs.Common.{◌≡◌}
use Rattle.std.specs.Prelude.{replicate}
use Rattle.pb_strategies.specs.Hosts.{nowhere}
use Rattle.pb_strategies.proofs.standings.outside.Given as goal

abbrev pub invariant-loop : goal.invariant-loop
invariant-loop l = l.all.items ≡ replicate l.counter nowhere
