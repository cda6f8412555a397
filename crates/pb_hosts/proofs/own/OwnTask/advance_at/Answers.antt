use Rattle.pb_hosts.specs.Applied.{learnt_in}
use Rattle.pb_hosts.proofs.Changed.{there}
use Rattle.pb_hosts.proofs.InTurn.{learns_nowhere, learns_there}
use Rattle.pb_hosts.proofs.own.OwnTask.advance_at.Goals as goal

pub returns-in_ok-step_result-in-Some-clause-past : goal.returns-in_ok-step_result-in-Some-clause-past
returns-in_ok-step_result-in-Some-clause-past c =
    learns_there c.in_ok-step_result-in-Some.past c.args.rows.now.items c.args.host.0 c.in-Some.row.now c.advance.new.self
    (there c.args.rows.now.items c.args.host.0 c.in-Some.row.now c.in-Some.ensures.item.3.0 c.in-Some.ensures.item.1)
    c.in_ok-step_result-in-Some.ensures.past

pub returns-in-None-clause-past : goal.returns-in-None-clause-past
returns-in-None-clause-past c = learns_nowhere c.args.host.0 (learnt_in c.args.rows.now.items)
