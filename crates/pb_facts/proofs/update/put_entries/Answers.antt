use Rattle.pb_facts.proofs.Applying.{leads_first}
use Rattle.pb_facts.proofs.update.put_entries.Goals as goal

pub returns-in-Ok-clause-log : goal.returns-in-Ok-clause-log
returns-in-Ok-clause-log c = leads_first c.new-log.result.items c.put_some.new.log.items c.args.set.now c.put_some.new.set c.new-log.ensures.items c.in-Ok.ensures.log

pub returns-in-Err-clause-err : goal.returns-in-Err-clause-err
returns-in-Err-clause-err c =
    c.put_back.ensures c.args.set.now (leads_first c.new-log.result.items c.put_some.new.log.items c.args.set.now c.put_some.new.set c.new-log.ensures.items c.in-Err.ensures.log)
