use Rattle.pb_lanes.proofs.Coded.{count_same}
use Rattle.pb_lanes.proofs.status_row.StatusRow.count.Goals as goal

pub returns : goal.returns
returns c = rw (c.count_in.ensures, c.as_slice.ensures.value, c.code_of.ensures.value, ← c.self.view_is) (count_same c.args.status c.self.inside.codes.items c.self.invariant.1)
