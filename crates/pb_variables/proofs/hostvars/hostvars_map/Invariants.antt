use Rattle.std.proofs.Common.{◌≡◌}
use Rattle.pb_variables.specs.Learnt.{facts_in}
use Rattle.pb_variables.specs.Magic.{first_hosts}
use Rattle.pb_variables.proofs.hostvars.hostvars_map.Given as goal

abbrev pub invariant-loop-n : goal.invariant-loop-n
invariant-loop-n l = l.known ≡ first_hosts l.inventory l.extra (facts_in l.learnt) l.n
