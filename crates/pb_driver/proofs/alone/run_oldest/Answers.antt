use Rattle.std.proofs.Common.{rules}
use Rattle.pb_outcome.specs.declared.job.Report.{Report}
use Rattle.pb_engine.proofs.Laws.{attempt_of_job, item_of_job}
use Rattle.pb_driver.proofs.Driving.{oldest_waits}
use Rattle.pb_driver.proofs.alone.run_oldest.Goals as goal

pub returns-clause-waits : goal.returns-clause-waits
returns-clause-waits g c =
    let report : Report = record { ticket = c.in-Some.ticket; host = c.in-Some.host; item = c.in-Some-2.job.item; attempt = c.in-Some-2.job.attempt; outcome = c.run-outcome.result } in
    let item = item_of_job c.args.engine.now.plan c.args.engine.now.state c.in-Some.host c.in-Some.ticket c.in-Some-2.job (search rules) in
    let attempt = attempt_of_job c.args.engine.now.plan c.args.engine.now.state c.in-Some.host c.in-Some.ticket c.in-Some-2.job (search rules) in
    oldest_waits c.args.engine.now report c.requires.sound (search rules) item attempt
