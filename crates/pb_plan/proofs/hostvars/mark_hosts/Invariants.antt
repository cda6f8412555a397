use Rattle.std.proofs.Common.{◌≡◌, length}
use Rattle.pb_plan.specs.Hostvars.{AreFreeHosts}
use Rattle.pb_plan.proofs.hostvars.mark_hosts.Given as goal

abbrev pub invariant-loop-n : goal.invariant-loop-n
invariant-loop-n l = record {
  count : length l.marked.items ≡ l.n;
  free : AreFreeHosts l.inventory l.extra l.marked.items;
}
