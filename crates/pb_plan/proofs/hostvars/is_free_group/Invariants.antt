use Rattle.std.proofs.Common.{take}
use Rattle.pb_plan.specs.Hostvars.{IsFreeGroup}
use Rattle.pb_plan.proofs.hostvars.is_free_group.Given as goal

abbrev pub invariant-loop-variable : goal.invariant-loop-variable
invariant-loop-variable l = IsFreeGroup (take l.variable-index l.vars)
