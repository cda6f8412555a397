use Rattle.std.proofs.Common.{◌≡◌, map, take}
use Rattle.pb_variables.proofs.shared.numbers_of.Given as goal

abbrev pub invariant-loop-group : goal.invariant-loop-group
invariant-loop-group l = l.numbers.items ≡ map (λ g. g.0) (take l.group-index l.groups)
