use Rattle.std.proofs.Common.{◌∙◌}
use Rattle.pb_recap.proofs.InColumns.{total_is}
use Rattle.pb_recap.proofs.columns.total.Goals as goal

pub returns : goal.returns
returns c = c.total.ensures ∙ total_is c.args.kind c.args.columns.now c.hosts-hosts.ensures.columns
