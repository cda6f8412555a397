use Rattle.std.proofs.Common.{◌∙◌, sym}
use Rattle.pb_show.proofs.Rows.{values-length}
use Rattle.pb_show.proofs.reading.totals_of.Goals as goal

pub returns : goal.returns
returns c =
    let hosts = c.len.ensures.len ∙ sym (values-length c.args.hosts.now.entries) in
    cc (c.count_at.ensures, c.count_at-2.ensures)
