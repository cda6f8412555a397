use Rattle.std.proofs.Common.{◌≡◌, length}
use Rattle.pb_variables.specs.Shared.{AreKept}
use Rattle.pb_variables.proofs.shared.GroupShares.of.Given as goal

abbrev pub invariant-loop-n : goal.invariant-loop-n
invariant-loop-n l = record {
  count : length l.of_host.items ≡ l.n;
  inventory : l.sharing ≡ l.inventory;
  kept : AreKept l.inventory l.of_host.items;
}
