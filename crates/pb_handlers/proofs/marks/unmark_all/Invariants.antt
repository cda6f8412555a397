use Rattle.std.proofs.Common.{◌≡◌, ◌++◌, false, replicate, drop}
use Rattle.pb_handlers.proofs.marks.unmark_all.Given as goal

abbrev pub invariant-loop-mark : goal.invariant-loop-mark
invariant-loop-mark l = l.marks ≡ replicate l.mark-index false ++ drop l.mark-index l.fn.marks
