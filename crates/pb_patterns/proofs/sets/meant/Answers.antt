use Rattle.pb_patterns.proofs.SetLaws.{meant_is}
use Rattle.pb_patterns.proofs.sets.meant.Goals as goal

pub returns-clause-set : goal.returns-clause-set
returns-clause-set c =
    λ test groups hosts. meant_is c.args.inventory.now test c.args.groups.now c.args.hosts.now c.in_ok-set.set c.add_groups.new.set groups hosts c.in_ok-set.ensures c.add_groups.ensures.width c.add_groups.ensures.added
