use Rattle.pb_facts.proofs.Applying.{leads_back}
use Rattle.pb_facts.proofs.update.put_last_back.Goals as goal

pub returns-in-Some-clause-back : goal.returns-in-Some-clause-back
returns-in-Some-clause-back c =
    leads_back c.pop.result c.in-Some.last c.args.log.now.items c.pop.new.self.items c.args.set.now c.restore.new.dict c.pop.ensures.items c.in-Some.is c.restore.ensures
