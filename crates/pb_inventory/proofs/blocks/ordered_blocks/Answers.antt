use Rattle.std.proofs.Common.{IfOk, subst, ◌∙◌}
use Rattle.pb_inventory.specs.ByBlock.{AreBlocks}
use Rattle.pb_inventory.specs.GraphOf.{numbered}
use Rattle.pb_inventory.proofs.blocks.ordered_blocks.Goals as goal

pub returns : goal.returns
returns c =
    subst (λ order. IfOk c.blocks_of.result (λ blocks. AreBlocks (numbered c.args.graph.now) order blocks.items)) (c.as_slice.ensures.value ∙ c.in_ok-order.ensures.value) c.blocks_of.ensures
