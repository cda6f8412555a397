use Rattle.std.proofs.Common.{rules}
use Rattle.pb_cli.proofs.Running.{run_cut}
use Rattle.pb_cli.proofs.playing.run_or_audit.Goals as goal

pub returns-in-None-clause-stopped : goal.returns-in-None-clause-stopped
returns-in-None-clause-stopped g c = λ fault trail h. run_cut _ _ _ fault trail _ _ (search rules) (c.run_plan.ensures.stopped fault trail h)

pub returns-in-None-clause-bad_outcomes : goal.returns-in-None-clause-bad_outcomes
returns-in-None-clause-bad_outcomes g c = λ e h. let bad_outcomes = c.run_plan.ensures.bad_outcomes e h in (search rules, bad_outcomes.0, bad_outcomes.1, bad_outcomes.2)
