use Rattle.std.proofs.Common.{refl, sym, ◌∙◌}
use Rattle.pb_inventory.specs.MemberSets.{members_in}
use Rattle.pb_patterns.proofs.SetLaws.{add_hit, add_missed}
use Rattle.pb_patterns.proofs.sets.add_groups.Goals as goal
use Rattle.pb_patterns.proofs.sets.add_groups.Goals.{then-groups-group, else-groups-group}

pub loop-group-preserved : goal.loop-group-preserved
loop-group-preserved c = elim c.if-groups-group.branch [
  | then-groups-group w ↦
      add_hit c.args.groups.now (members_in c.args.inventory.now) c.args.set.now c.loop-group.set w.members.result.now c.if-groups-group.set c.loop-group.group _ refl c.loop-group.invariant.0
      (w.members.ensures.width ∙ sym (c.loop-group.invariant.0 ∙ c.requires.hosts)) w.members.ensures.set w.if-groups-group.true (w.set-is ∙ w.or_with.ensures) c.loop-group.invariant.1
  | else-groups-group w ↦
      add_missed c.args.groups.now (members_in c.args.inventory.now) c.args.set.now c.loop-group.set c.if-groups-group.set c.loop-group.group _ refl c.loop-group.invariant.0
      w.if-groups-group.false w.set-is c.loop-group.invariant.1
]
