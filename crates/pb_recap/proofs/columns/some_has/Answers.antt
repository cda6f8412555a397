use Rattle.std.proofs.Common.{◌∙◌}
use Rattle.pb_recap.proofs.InColumns.{some_is}
use Rattle.pb_recap.proofs.columns.some_has.Goals as goal

pub returns : goal.returns
returns c = c.nonzero.ensures ∙ some_is c.args.kind c.args.columns.now c.hosts-hosts.ensures.columns
