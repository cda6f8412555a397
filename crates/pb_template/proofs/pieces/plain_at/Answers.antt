use Rattle.std.proofs.Common.{ap, sym, ◌∙◌, subst}
use Rattle.std.specs.Str.{IsCharBoundary}
use Rattle.pb_template.specs.Pieces.{plain_size}
use Rattle.pb_template.proofs.Cutting.{plain_cut}
use Rattle.pb_template.proofs.pieces.plain_at.Goals as goal

pub range-requires-clause-end_boundary : goal.range-requires-clause-end_boundary
range-requires-clause-end_boundary c = subst (IsCharBoundary c.args.text.now) (sym (c.plain_size-size.ensures ∙ ap plain_size c.as_bytes.ensures.value)) (plain_cut c.args.text.now)

pub returns-clause-cut : goal.returns-clause-cut
returns-clause-cut c = subst (IsCharBoundary c.args.text.now) (sym (c.plain_size-size.ensures ∙ ap plain_size c.as_bytes.ensures.value)) (plain_cut c.args.text.now)
