use Rattle.std.proofs.Common.{◌≡◌, map, take}
use Rattle.pb_handlers.specs.Naming.{is_notified}
use Rattle.pb_handlers.proofs.handlers.Handlers.marked.Given as goal

abbrev pub invariant-loop-word : goal.invariant-loop-word
invariant-loop-word l = l.marks ≡ map (is_notified (take l.word-index l.words)) l.self
