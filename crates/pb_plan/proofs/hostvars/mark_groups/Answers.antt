use Rattle.std.proofs.Common.{◌≡◌, List, subst, true, arith}
use Rattle.std.proofs.lemmas.Grind.{common_steps}
use Rattle.pb_inventory.specs.declared.vars.Variable.{Variable}
use Rattle.pb_plan.specs.Hostvars.{IsFreeGroup}
use Rattle.pb_plan.proofs.Marks.{none_grouped, grouped_more}
use Rattle.pb_plan.proofs.hostvars.mark_groups.Goals as goal

pub loop-n-init : goal.loop-n-init
loop-n-init c = record { count = grind (arith, common_steps); free = none_grouped c.args.inventory.now _ c.in_ok-marked.ensures.items }

pub loop-n-preserved : goal.loop-n-preserved
loop-n-preserved c = record {
  count = grind (arith, common_steps);
  free =
      grouped_more c.args.inventory.now c.loop-n.marked.items c.push.new.self.items c.is_free_group-is.result c.loop-n.n c.loop-n.invariant.count c.loop-n.invariant.free
      (λ t. subst IsFreeGroup c.vars_of_group.ensures (c.is_free_group-is.ensures t)) c.in_ok-push.ensures.items;
}
