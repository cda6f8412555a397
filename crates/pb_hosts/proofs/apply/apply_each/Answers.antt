use Rattle.pb_hosts.proofs.Applying.{leads_first}
use Rattle.pb_hosts.proofs.apply.apply_each.Goals as goal

pub returns-in-Ok-clause-past : goal.returns-in-Ok-clause-past
returns-in-Ok-clause-past c =
    leads_first c.new-log.result.items c.apply_some.new.log.items c.args.rows.now.items c.apply_some.new.rows.items c.new-log.ensures.items c.in-Ok.ensures.log

pub returns-in-Err-clause-err : goal.returns-in-Err-clause-err
returns-in-Err-clause-err c =
    c.revert_all.ensures c.args.rows.now.items (leads_first c.new-log.result.items c.apply_some.new.log.items c.args.rows.now.items c.apply_some.new.rows.items c.new-log.ensures.items c.in-Err.ensures.log)
