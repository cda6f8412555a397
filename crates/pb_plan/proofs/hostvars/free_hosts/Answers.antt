use Rattle.std.proofs.Common.{sym, subst}
use Rattle.pb_plan.specs.Hostvars.{AreFreeGroups}
use Rattle.pb_plan.proofs.hostvars.free_hosts.Goals as goal

pub mark_hosts-requires-clause-groups : goal.mark_hosts-requires-clause-groups
mark_hosts-requires-clause-groups c = subst (AreFreeGroups c.args.inventory.now) (sym c.as_slice.ensures.value) c.in_ok-groups.ensures
