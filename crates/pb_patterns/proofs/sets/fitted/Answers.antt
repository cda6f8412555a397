use Rattle.std.proofs.Common.{ℕ, List, IfOk, ◌≡◌, ◌∙◌, subst}
use Rattle.std.specs.Str.{chars}
use Rattle.pb_patterns.specs.Globs.{glob, fits}
use Rattle.pb_patterns.specs.Sets.{meant}
use Rattle.pb_patterns.proofs.sets.fitted.Goals as goal

pub returns-clause-set : goal.returns-clause-set
unfolding glob
returns-clause-set c =
    subst (λ (signs : List ℕ). IfOk c.fitting.result (λ set. set ≡ meant c.args.inventory.now (λ name. fits signs (chars name)))) (c.as_slice.ensures.value ∙ c.in_ok-signs.ensures) c.fitting.ensures.set
