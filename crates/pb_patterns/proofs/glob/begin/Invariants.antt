use Rattle.std.proofs.Common.{◌-◌, length, []}
use Rattle.pb_patterns.proofs.Rows.{RowFrom}
use Rattle.pb_patterns.proofs.glob.begin.Given as goal

abbrev pub invariant-loop-back : goal.invariant-loop-back
invariant-loop-back l = RowFrom l.pattern [] l.row (length l.pattern - l.back)
