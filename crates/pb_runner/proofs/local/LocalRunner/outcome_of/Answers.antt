use Rattle.pb_runner.proofs.Started.{gives_none, gives_started, ran_none, ran_started}
use Rattle.pb_runner.proofs.local.LocalRunner.outcome_of.Goals as goal

pub returns-then-is_empty-clause-given : goal.returns-then-is_empty-clause-given
returns-then-is_empty-clause-given g c = gives_none _ _ _ c.not_started.ensures

pub returns-then-is_empty-clause-ran : goal.returns-then-is_empty-clause-ran
returns-then-is_empty-clause-ran g c = ran_none _ _ _ _ _ c.is_empty.ensures c.if-is_empty.true c.not_started.ensures

pub returns-clause-given : goal.returns-clause-given
returns-clause-given g c = gives_started _ _ _ _ c.is_empty.ensures c.if-is_empty.false c.started.ensures.allowed

pub returns-clause-ran : goal.returns-clause-ran
returns-clause-ran g c = ran_started _ _ _ _ _ _ _ c.is_empty.ensures c.if-is_empty.false c.started.ensures.facts c.started.ensures.launched
