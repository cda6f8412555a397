use Rattle.std.proofs.Common.{ap, sym, ◌∙◌}
use Rattle.pb_template.specs.declared.pieces.State.TheVariants as state
use Rattle.pb_template.specs.Pieces.{code_size}
use Rattle.pb_template.proofs.Cutting.{open_cut, code_cut, front_cut}
use Rattle.pb_template.proofs.pieces.code_at.Goals as goal

pub range_from-code-requires : goal.range_from-code-requires
range_from-code-requires c = λ some. open_cut c.args.text.now c.utf8.text c.requires

pub range-requires-clause-end_boundary : goal.range-requires-clause-end_boundary
range-requires-clause-end_boundary c = code_cut c.range_from-code.result.now c.in-Some.size (ap (code_size state.Outside) (sym c.as_bytes.ensures.value) ∙ sym c.in-Some.ensures)

pub returns-clause-cut : goal.returns-clause-cut
returns-clause-cut c = front_cut c.args.text.now c.in-Some.size c.utf8.text (ap (code_size state.Outside) (sym c.range_from-code.ensures.value ∙ sym c.as_bytes.ensures.value) ∙ sym c.in-Some.ensures)
