use Rattle.std.proofs.Common.{◌∙◌}
use Rattle.pb_limits.proofs.Counted.{finished}
use Rattle.pb_limits.proofs.limits.Limits.finish.Goals as goal

pub returns : goal.returns
returns c = λ places host runs e counts.
    let law = finished places c.args.place host c.self.inside.running runs c.self.inside.at.items e (c.self.view_is ∙ counts) in
    rw (c.saturating_sub-self-inside.ensures, c.one_less.ensures) law
