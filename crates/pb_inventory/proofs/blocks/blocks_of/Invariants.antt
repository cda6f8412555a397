use Rattle.std.proofs.Common.{◌+◌, ◌/◌, length}
use Rattle.pb_inventory.specs.GraphOf.{numbered}
use Rattle.pb_inventory.proofs.InBlocks.{AreLeft}
use Rattle.pb_inventory.proofs.blocks.blocks_of.Given as goal

abbrev pub invariant-loop-group : goal.invariant-loop-group
invariant-loop-group l = AreLeft (numbered l.graph) l.order l.group-index ((length l.graph.hosts + 63) / 64) l.blocks.items
