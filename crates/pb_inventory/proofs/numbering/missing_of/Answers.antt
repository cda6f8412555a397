use Rattle.std.proofs.Common.{◌∙◌, ap, length}
use Rattle.std.proofs.lemmas.Result.{IfOk-weaker}
use Rattle.pb_inventory.specs.Graph.{is_unmarked}
use Rattle.std.specs.Prelude.{filter}
use Rattle.std.specs.List.{range_with_len}
use Rattle.pb_inventory.proofs.Ranges.{missing_is}
use Rattle.pb_inventory.proofs.numbering.missing_of.Goals as goal

pub returns : goal.returns
returns c =
    IfOk-weaker c.unmarked.result _ _
    (λ v is. is ∙ ap (λ marks. filter (is_unmarked marks) (range_with_len 0 (length marks))) c.as_slice.ensures.value
    ∙ missing_is c.args.numbers.now c.args.limit c.loop-number.number-index c.loop-number.marks.items c.loop-number-test.false c.loop-number.invariant.0 c.loop-number.invariant.1) c.unmarked.ensures
