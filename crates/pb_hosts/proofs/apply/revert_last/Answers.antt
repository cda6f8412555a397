use Rattle.pb_hosts.proofs.Applying.{leads_back}
use Rattle.pb_hosts.proofs.apply.revert_last.Goals as goal

pub returns-in-Some-clause-back : goal.returns-in-Some-clause-back
returns-in-Some-clause-back c =
    leads_back c.pop.result c.in-Some.last c.args.log.now.items c.pop.new.self.items c.args.rows.now.items c.revert_at.new.rows.items c.pop.ensures.items c.in-Some.is c.revert_at.ensures
