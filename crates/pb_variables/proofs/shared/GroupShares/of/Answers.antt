use Rattle.std.proofs.Common.{◌∙◌, subst, arith}
use Rattle.std.proofs.lemmas.Grind.{common_steps}
use Rattle.pb_inventory.specs.InventoryOf.{InventoryOf}
use Rattle.pb_variables.specs.Shared.{IsKeptFor}
use Rattle.pb_variables.proofs.Keeping.{one_more, none_yet}
use Rattle.pb_variables.proofs.shared.GroupShares.of.Goals as goal

pub loop-n-init : goal.loop-n-init
loop-n-init c = record { count = grind (arith, common_steps); inventory = c.new-sharing.ensures; kept = none_yet c.args.inventory.now _ c.in_ok-of_host.ensures.items }

pub loop-n-preserved : goal.loop-n-preserved
loop-n-preserved c = record {
  count = grind (arith, common_steps);
  inventory = c.of_host.ensures.same ∙ c.loop-n.invariant.inventory;
  kept =
      one_more c.args.inventory.now c.loop-n.of_host.items c.push.new.self.items c.in_ok-kept.kept c.loop-n.n c.loop-n.invariant.count c.loop-n.invariant.kept
      (subst (λ (i : InventoryOf). IsKeptFor i c.loop-n.n c.in_ok-kept.kept) c.loop-n.invariant.inventory c.in_ok-kept.ensures.kept) c.in_ok-push.ensures.items;
}
