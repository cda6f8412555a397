use Rattle.pb_driver.proofs.RunsAlone.{whole_run, begun_run, ran_to}
use Rattle.pb_driver.proofs.driver.run_plain.Goals as goal

pub returns-in-Ok-clause-run : goal.returns-in-Ok-clause-run
returns-in-Ok-clause-run g c =
    whole_run g.R.Allows.allows g.R.Runner.gives g.R.Runner.ran c.args.plan 256 c.args.commands.now c.in-Ok.ended.trail.items (g.W.LineOut.taken c.args.writer.now) (g.W.LineOut.taken c.run_crew.new.writer) c.of.result.value c.args.runner.now c.run_crew.new.hand
    c.of.ensures c.in-Ok.ensures.run.whole c.in-Ok.ensures.run.mails

pub returns-clause-begun : goal.returns-clause-begun
returns-clause-begun g c = begun_run g.R.Allows.allows g.R.Runner.gives c.args.plan 256 c.args.commands.now c.in-Err.stopped.1.items c.of.result.value c.args.runner.now c.of.ensures c.in-Err.ensures.stopped.begun

pub returns-clause-ran : goal.returns-clause-ran
returns-clause-ran g c =
    ran_to g.R.Allows.allows g.R.Runner.gives g.R.Runner.ran c.args.plan 256 c.in-Err.stopped.1.items c.in-Err.stopped.0 c.of.result.value c.args.runner.now c.run_crew.new.hand c.in-Err.ensures.stopped.lost

pub returns-in-Ok-clause-quiet : goal.returns-in-Ok-clause-quiet
returns-in-Ok-clause-quiet g c = c.in-Ok.ensures.run.quiet

pub returns-clause-cut : goal.returns-clause-cut
returns-clause-cut g c = c.in-Err.ensures.stopped.cut

pub returns-clause-failed : goal.returns-clause-failed
returns-clause-failed g c = c.in-Err.ensures.stopped.failed

pub returns-clause-opened : goal.returns-clause-opened
returns-clause-opened g c = c.in-Err.ensures.stopped.opened
