use Rattle.std.proofs.Common.{sym, ◌∙◌}
use Rattle.pb_value.proofs.KeptNames.{seen_err, seen_gone, seen_some}
use Rattle.pb_value.proofs.shared.find_kept.Goals as goal

pub returns-in-Some : goal.returns-in-Some
returns-in-Some c =
    c.nth.ensures ∙ seen_some c.args.name.now c.args.gone c.args.names.now c.args.values.now c.in-Ok.at c.in-Ok.ensures.ordered c.in-Ok.ensures.value c.in-Some.index c.in-Some.ensures.value

pub returns-in-None : goal.returns-in-None
returns-in-None c = sym (seen_gone c.args.name.now c.args.gone c.args.names.now c.args.values.now c.in-Ok.at c.in-Ok.ensures.ordered c.in-Ok.ensures.value c.in-None.ensures.value)

pub returns-in-Err : goal.returns-in-Err
returns-in-Err c = sym (seen_err c.args.name.now c.args.gone c.args.names.now c.args.values.now c.in-Err.field-0 c.in-Err.ensures.ordered c.in-Err.ensures.value)
