use Rattle.std.proofs.Common.{rules}
use Rattle.pb_engine.proofs.Runs.{once_in_run, laws_in_run}
use Rattle.pb_engine.proofs.engine.Engine.into_trail.Goals as goal

pub returns-clause-once : goal.returns-clause-once
returns-clause-once c = once_in_run c.args.self.plan c.args.self.pool c.args.self.trail c.args.self.state (search rules)

pub returns-clause-laws : goal.returns-clause-laws
returns-clause-laws c = laws_in_run c.args.self.plan c.args.self.pool c.args.self.trail c.args.self.state c.runs_keep_laws.ensures (search rules)
