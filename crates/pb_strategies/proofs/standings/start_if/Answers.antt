use Rattle.std.proofs.Common.{◌∙◌, None, ap, sym, slice_set}
use Rattle.pb_limits.specs.Counts.{limits_of}
use Rattle.pb_strategies.proofs.Keeping.{set_same}
use Rattle.pb_strategies.proofs.standings.start_if.Goals as goal

pub returns-in_default : goal.returns-in_default
returns-in_default c = λ places host runs few e counts.
    counts ∙ ap (limits_of places) (sym (ap (λ v. slice_set runs host v) c.in_default.is ∙ set_same runs host None e))
