use Rattle.std.proofs.Common.{◌≡◌, [], replicate}
use Rattle.pb_handlers.specs.Notes.{notes_after}
use Rattle.pb_handlers.proofs.notes.first_marks.Given as goal

abbrev pub invariant-loop : goal.invariant-loop
invariant-loop l = l.marks.items ≡ notes_after l.handlers (replicate l.counter [])
