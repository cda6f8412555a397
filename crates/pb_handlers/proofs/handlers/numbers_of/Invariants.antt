use Rattle.std.proofs.Common.{◌≡◌, ◌++◌, drop}
use Rattle.pb_handlers.specs.Index.{marked_from}
use Rattle.pb_handlers.proofs.handlers.numbers_of.Given as goal

abbrev pub invariant-loop-number : goal.invariant-loop-number
invariant-loop-number l = l.numbers.items ++ marked_from l.number (drop l.number l.marks) ≡ marked_from 0 l.marks
