use Rattle.pb_host.specs.Back.{undone}
use Rattle.pb_hosts.proofs.Changed.{there}
use Rattle.pb_hosts.proofs.Reported.{put_back}
use Rattle.pb_hosts.proofs.list.take_back.Goals as goal

pub returns-in_ok-came-in-Some-clause-undo : goal.returns-in_ok-came-in-Some-clause-undo
returns-in_ok-came-in-Some-clause-undo c =
    put_back c.args.rows.now.items c.args.host.0 c.in-Some.row.now c.take_back.new.self (undone c.in_ok-came-in-Some.came.before)
    (there c.args.rows.now.items c.args.host.0 c.in-Some.row.now c.in-Some.ensures.item.3.0 c.in-Some.ensures.item.1)
    c.in_ok-came-in-Some.ensures.undo
