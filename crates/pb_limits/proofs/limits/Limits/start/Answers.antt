use Rattle.std.proofs.Common.{◌∙◌}
use Rattle.pb_limits.proofs.Counted.{started}
use Rattle.pb_limits.proofs.limits.Limits.start.Goals as goal

pub returns : goal.returns
returns c = λ places host runs few e counts.
    let law = started places c.args.place host c.self.inside.running runs c.self.inside.at.items few e (c.self.view_is ∙ counts) in
    rw (c.saturating_add-self-inside.ensures, c.one_more.ensures) law
