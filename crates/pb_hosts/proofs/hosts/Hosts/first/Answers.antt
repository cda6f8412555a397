use Rattle.pb_hosts.proofs.Asked.{first_due}
use Rattle.pb_hosts.proofs.hosts.Hosts.first.Goals as goal

pub invariant_of-result : goal.invariant_of-result
invariant_of-result c =
    first_due c.args.hosts c.in_ok-sends.sends c.in_ok-standings.standings c.in_ok-batch.batch c.in_ok-awaits_batch.awaits_batch c.new-out.result.items c.in_ok-rows.rows.items c.in_ok-sends.ensures c.in_ok-standings.ensures c.in_ok-batch.ensures c.in_ok-awaits_batch.ensures c.new-out.ensures.items c.in_ok-rows.ensures
