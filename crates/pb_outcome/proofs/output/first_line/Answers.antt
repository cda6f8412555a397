use Rattle.std.proofs.Common.{arith}
use Rattle.std.proofs.lemmas.Str.Pattern.{split_once_first}
use Rattle.pb_outcome.proofs.Cuts.{cut-some, cut-none}
use Rattle.pb_outcome.proofs.output.first_line.Goals as goal

pub returns-clause-some : goal.returns-clause-some
returns-clause-some c =
    cut-some c.args.text.now c.split_once.result (split_once_first 10 c.args.text.now c.split_once.result c.split_once.ensures.cases (omega arith))

pub returns-clause-none : goal.returns-clause-none
returns-clause-none c =
    cut-none c.args.text.now c.split_once.result (split_once_first 10 c.args.text.now c.split_once.result c.split_once.ensures.cases (omega arith))
