use Rattle.pb_lanes.proofs.Coded.{all_same}
use Rattle.pb_lanes.proofs.status_row.StatusRow.select.Goals as goal

pub returns : goal.returns
returns c = rw (c.select_in.ensures, c.as_slice.ensures.value, c.code_of.ensures.value, ← c.self.view_is) (all_same c.args.status c.self.inside.codes.items c.self.invariant.1)
