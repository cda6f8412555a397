use Rattle.std.proofs.Common.{ℕ, List, ◌-◌, length}
use Rattle.pb_patterns.specs.Fitting.{IsRow}
use Rattle.pb_patterns.proofs.Rows.{Stepping}
use Rattle.pb_patterns.proofs.glob.step.Given as goal

abbrev pub invariant-loop-back : goal.invariant-loop-back
invariant-loop-back l = (cs : List ℕ) → IsRow l.pattern cs l.fn.row → Stepping l.pattern l.c cs l.old_behind l.row (length l.pattern - l.back)
