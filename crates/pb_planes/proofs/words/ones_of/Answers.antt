use Rattle.std.proofs.Common.{rules, arith}
use Rattle.pb_planes.proofs.Counted.{ones_of_word}
use Rattle.pb_planes.proofs.words.ones_of.Goals as goal

pub returns-clause-ones : goal.returns-clause-ones
returns-clause-ones c = (ones_of_word c.args.word (search rules)).0

pub returns-clause-most : goal.returns-clause-most
returns-clause-most c = (ones_of_word c.args.word (search rules)).1
