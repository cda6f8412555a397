use Rattle.std.proofs.Common.{◌≡◌, drop}
use Rattle.pb_conditions.specs.Conditions.{holds}
use Rattle.pb_conditions.proofs.holds.holds.Given as goal

abbrev pub invariant-loop-condition : goal.invariant-loop-condition
invariant-loop-condition l = holds l.scope (drop l.condition-index l.conditions) ≡ holds l.scope l.conditions
