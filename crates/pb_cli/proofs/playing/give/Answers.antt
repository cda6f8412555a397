use Rattle.std.proofs.Common.{rules}
use Rattle.pb_cli.proofs.playing.give.Goals as goal

pub returns-in-Run-clause-bad_outcomes : goal.returns-in-Run-clause-bad_outcomes
returns-in-Run-clause-bad_outcomes g c = λ e h. let bad_outcomes = c.run_or_audit.ensures.bad_outcomes e h in (search rules, bad_outcomes.0, bad_outcomes.1, bad_outcomes.2, bad_outcomes.3)

pub returns-in-Run-clause-unread : goal.returns-in-Run-clause-unread
returns-in-Run-clause-unread g c = λ e h. let unread = c.run_or_audit.ensures.unread e h in (search rules, unread.0, unread.1, unread.2)
