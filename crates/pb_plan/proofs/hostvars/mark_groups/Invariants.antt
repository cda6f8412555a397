use Rattle.std.proofs.Common.{◌≡◌, length}
use Rattle.pb_plan.specs.Hostvars.{AreFreeGroups}
use Rattle.pb_plan.proofs.hostvars.mark_groups.Given as goal

abbrev pub invariant-loop-n : goal.invariant-loop-n
invariant-loop-n l = record {
  count : length l.marked.items ≡ l.n;
  free : AreFreeGroups l.inventory l.marked.items;
}
