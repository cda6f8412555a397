use Rattle.std.proofs.Common.{◌≡◌, drop}
use Rattle.pb_tree.specs.Walk.{noted}
use Rattle.pb_handlers.proofs.marks.note.Given as goal

abbrev pub invariant-loop-handler : goal.invariant-loop-handler
invariant-loop-handler l = noted l.marks (drop l.handler-index l.handlers) ≡ noted l.fn.marks l.handlers
