use Rattle.std.proofs.Common.{◌≡◌, ◌∙◌, ℕ, Option, sym, subst}
use Rattle.pb_strategies.specs.Parts.{is_shut_by}
use Rattle.pb_strategies.proofs.Closing.{without, same_runs}
use Rattle.pb_strategies.proofs.starts.drop_further.Goals as goal

pub returns-else-not-same_place : goal.returns-else-not-same_place
returns-else-not-same_place c =
    let view = c.args.view.now in
    subst (λ (r : Option ℕ). c.args.set.now ≡ without (is_shut_by view r) c.args.set.now view.hosts) (sym (same_runs c.args.runs c.args.last (sym c.same_place.ensures ∙ c.if-not-same_place.false))) c.requires.last
