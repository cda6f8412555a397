use Rattle.std.proofs.Common.{arith}
use Rattle.std.proofs.lemmas.Grind.{common_steps}
use Rattle.pb_plan.proofs.Marks.{none_hosted, hosted_more}
use Rattle.pb_plan.proofs.hostvars.mark_hosts.Goals as goal

pub loop-n-init : goal.loop-n-init
loop-n-init c = record { count = grind (arith, common_steps); free = none_hosted c.args.inventory.now c.args.extra.now _ c.in_ok-marked.ensures.items }

pub loop-n-preserved : goal.loop-n-preserved
loop-n-preserved c = record {
  count = grind (arith, common_steps);
  free =
      hosted_more c.args.inventory.now c.args.extra.now c.loop-n.marked.items c.push.new.self.items c.in_ok-free.free c.loop-n.n c.loop-n.invariant.count c.loop-n.invariant.free
      (λ t. record { extras = c.requires.extra; groups = c.in_ok-free.ensures.groups t; own = c.in_ok-free.ensures.own t }) c.in_ok-push.ensures.items;
}
