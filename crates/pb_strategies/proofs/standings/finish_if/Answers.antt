use Rattle.std.proofs.Common.{◌∙◌, None, Some, ap, sym}
use Rattle.pb_limits.specs.Counts.{limits_of}
use Rattle.pb_strategies.proofs.Keeping.{set_same}
use Rattle.pb_strategies.proofs.standings.finish_if.Goals as goal

pub returns-in_default : goal.returns-in_default
returns-in_default c = λ places host runs e counts. counts ∙ ap (limits_of places) (sym (set_same runs host None (e ∙ ap Some c.in_default.is)))
