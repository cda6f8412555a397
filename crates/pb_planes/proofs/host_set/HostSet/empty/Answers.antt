use Rattle.std.proofs.Common.{rules, arith}
use Rattle.pb_planes.proofs.Sets.{empty_is}
use Rattle.pb_planes.proofs.host_set.HostSet.empty.Goals as goal

pub returns : goal.returns
returns c = rw (c.of.ensures) (empty_is c.in_ok-words.words.items c.words_for.result c.args.width (search rules))
