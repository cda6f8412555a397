use Rattle.std.proofs.Common.{sym, ◌∙◌}
use Rattle.pb_reach.proofs.SameAttempts.{without_conditions}
use Rattle.pb_reach.proofs.reach.has_result_conditions.Goals as goal

pub returns-clause-silent : goal.returns-clause-silent
returns-clause-silent c = λ silent. without_conditions c.args.task.now (sym c.has_any.ensures ∙ silent)
