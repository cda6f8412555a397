use Rattle.std.proofs.Common.{◌≡◌, ◌++◌, take, drop, map}
use Rattle.pb_handlers.specs.Notes.{unmarked_all}
use Rattle.pb_handlers.proofs.notes.unmark_each.Given as goal

abbrev pub invariant-loop-marks : goal.invariant-loop-marks
invariant-loop-marks l = l.hosts ≡ map unmarked_all (take l.marks-index l.fn.hosts) ++ drop l.marks-index l.fn.hosts
