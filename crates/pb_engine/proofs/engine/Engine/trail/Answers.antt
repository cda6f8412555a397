use Rattle.std.proofs.Common.{rules}
use Rattle.pb_engine.proofs.Runs.{once_in_run, laws_in_run}
use Rattle.pb_engine.proofs.engine.Engine.trail.Goals as goal

pub returns-clause-once : goal.returns-clause-once
returns-clause-once c = once_in_run c.args.self.now.plan c.args.self.now.pool c.args.self.now.trail c.args.self.now.state (search rules)

pub returns-clause-laws : goal.returns-clause-laws
returns-clause-laws c = laws_in_run c.args.self.now.plan c.args.self.now.pool c.args.self.now.trail c.args.self.now.state c.runs_keep_laws.ensures (search rules)
