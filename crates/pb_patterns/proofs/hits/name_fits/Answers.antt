use Rattle.std.proofs.Common.{◌≡◌, ℕ, List, IfOk, subst, ◌∙◌}
use Rattle.pb_patterns.specs.Globs.{fits}
use Rattle.pb_patterns.proofs.hits.name_fits.Goals as goal

pub returns : goal.returns
returns c = subst (λ (cs : List ℕ). IfOk c.fits.result (λ b. b ≡ fits c.args.term.now cs)) (c.as_slice.ensures.value ∙ c.in_ok-name.ensures) c.fits.ensures
