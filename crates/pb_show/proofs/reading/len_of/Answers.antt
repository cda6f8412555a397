use Rattle.std.proofs.Common.{arith}
use Rattle.pb_show.proofs.Rows.{views-length}
use Rattle.pb_show.proofs.reading.len_of.Goals as goal

pub returns : goal.returns
returns c = omega (arith, c.len.ensures, c.args.values.now.ok.0, views-length c.args.values.now.items)
