use Rattle.std.proofs.Common.{take}
use Rattle.pb_plan.specs.Hostvars.{AreMarked}
use Rattle.pb_plan.proofs.hostvars.are_marked.Given as goal

abbrev pub invariant-loop-group : goal.invariant-loop-group
invariant-loop-group l = AreMarked l.marked (take l.group-index l.groups)
