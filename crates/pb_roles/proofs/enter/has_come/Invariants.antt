use Rattle.std.proofs.Common.{◌≡◌, drop}
use Rattle.pb_roles.specs.Entries.{has_come}
use Rattle.pb_roles.proofs.enter.has_come.Given as goal

abbrev pub invariant-loop-other : goal.invariant-loop-other
invariant-loop-other l = has_come l.entry l.came ≡ has_come l.entry (drop l.other-index l.came)
