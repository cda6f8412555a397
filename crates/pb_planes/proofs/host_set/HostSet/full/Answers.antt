use Rattle.std.proofs.Common.{rules, arith, true}
use Rattle.pb_planes.proofs.Sets.{constant, full_below}
use Rattle.pb_planes.proofs.host_set.HostSet.full.Goals as goal

pub returns : goal.returns
returns c = rw (c.of.ensures) (constant c.in_ok-words.words.items c.args.width true (full_below c.in_ok-words.words.items c.args.width c.in_ok-words.ensures.0 c.in_ok-words.ensures.1))
