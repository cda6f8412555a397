use Rattle.std.proofs.Common.{rules, arith}
use Rattle.pb_planes.proofs.Lowest.{no_bit, lowest}
use Rattle.pb_planes.proofs.words.first_from.Goals as goal

pub returns-then-high-eq0-clause-none : goal.returns-then-high-eq0-clause-none
returns-then-high-eq0-clause-none c = no_bit c.args.word c.args.k c.requires c.if-high-eq0.true

pub returns-else-high-eq0-clause-some : goal.returns-else-high-eq0-clause-some
returns-else-high-eq0-clause-some c = lowest c.args.word c.args.k c.requires (search rules) (search rules)
