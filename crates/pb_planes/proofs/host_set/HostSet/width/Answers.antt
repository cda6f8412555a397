use Rattle.std.proofs.Common.{sym}
use Rattle.pb_planes.proofs.Sets.{width_is}
use Rattle.pb_planes.proofs.host_set.HostSet.width.Goals as goal

pub returns : goal.returns
returns c = sym (width_is c.self.inside.words.items c.self.inside.width c.args.self.now c.self.view_is)
