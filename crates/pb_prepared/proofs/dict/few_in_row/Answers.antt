use Rattle.std.proofs.Common.{sym, ◌∙◌}
use Rattle.pb_prepared.proofs.Row.{few_are_row}
use Rattle.pb_prepared.proofs.dict.few_in_row.Goals as goal

pub returns : goal.returns
returns c = few_are_row c.args.dict.now c.in-Some.names c.in_ok-values.values (sym c.in_ok-names.ensures ∙ c.in-Some.is) c.in_ok-values.ensures
