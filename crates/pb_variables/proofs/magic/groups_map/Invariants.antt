use Rattle.std.proofs.Common.{◌≡◌}
use Rattle.pb_variables.specs.Magic.{first_groups}
use Rattle.pb_variables.proofs.magic.groups_map.Given as goal

abbrev pub invariant-loop-n : goal.invariant-loop-n
invariant-loop-n l = l.known ≡ first_groups l.inventory l.n
