use Rattle.std.proofs.Common.{refl}
use Rattle.pb_groups.specs.Merging.{in_order}
use Rattle.pb_inventory.specs.GraphOf.{numbered}
use Rattle.pb_inventory.specs.Vars.{priorities_in}
use Rattle.pb_inventory.proofs.InBlocks.{blocks_kept}
use Rattle.pb_inventory.proofs.inventory.Inventory.with_vars.Goals as goal

pub invariant_of-result : goal.invariant_of-result
invariant_of-result c =
    let graph = c.in_ok-new.ensures.ok in
    let vars = c.in_ok-new-2.ensures.ok in (
      blocks_kept c.args.graph c.in_ok-new.field-0.value (priorities_in c.args.file.group_vars c.args.graph.groups) (priorities_in c.in_ok-new-2.field-0.value.group_vars c.in_ok-new.field-0.value.groups)
          (in_order (numbered c.args.graph) (priorities_in c.args.file.group_vars c.args.graph.groups)) _ c.in_ok-new-2.field-0.value.blocks.items c.in_ok-blocks.ensures refl graph (rw (vars, graph, c.of-vars.ensures.groups) refl)
          (rw (vars, c.of-vars.ensures.blocks) refl),
      rw vars c.of-vars.ensures.no_vars,
    )
