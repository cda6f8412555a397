use Rattle.std.proofs.Common.{◌≤◌, ◌-◌, ◌*◌, ◌+◌, length}
use Rattle.pb_inventory.proofs.InBlocks.{AreAdded}
use Rattle.pb_inventory.proofs.blocks.add_group.Given as goal

abbrev pub invariant-loop-host : goal.invariant-loop-host
invariant-loop-host l = record {
  near : l.block * 64 ≤ length l.members + 64;
  added : AreAdded l.members l.block l.group l.fn.blocks l.blocks;
}

abbrev pub decreases-loop-host : goal.decreases-loop-host
decreases-loop-host l = length l.members + 64 - l.block * 64
