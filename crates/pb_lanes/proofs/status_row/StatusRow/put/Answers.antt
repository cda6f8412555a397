use Rattle.pb_lanes.proofs.Coded.{put_is}
use Rattle.pb_lanes.proofs.status_row.StatusRow.put.Goals as goal

pub returns : goal.returns
returns c = rw (c.code_of.ensures.value, ← c.self.view_is) (put_is c.self.inside.codes.items c.args.host.0 c.args.status)
