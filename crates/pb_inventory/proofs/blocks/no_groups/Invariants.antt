use Rattle.std.proofs.Common.{◌≡◌, [], replicate}
use Rattle.pb_inventory.proofs.blocks.no_groups.Given as goal

abbrev pub invariant-loop-block : goal.invariant-loop-block
invariant-loop-block l = l.lists.items ≡ replicate l._block []
