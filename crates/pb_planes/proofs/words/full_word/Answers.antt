use Rattle.std.proofs.Common.{rules, arith}
use Rattle.pb_planes.proofs.Put.{some_left, all_left}
use Rattle.pb_planes.proofs.words.full_word.Goals as goal

pub returns-then-width-first-lt64 : goal.returns-then-width-first-lt64
returns-then-width-first-lt64 c j lt = some_left c.args.first c.args.width j (omega arith) (omega arith) lt

pub returns-else-width-first-lt64 : goal.returns-else-width-first-lt64
returns-else-width-first-lt64 c j lt = all_left c.args.first c.args.width j (omega arith) lt
