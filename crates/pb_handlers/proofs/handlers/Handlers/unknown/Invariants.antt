use Rattle.std.proofs.Common.{◌≡◌, drop}
use Rattle.pb_handlers.specs.Naming.{first_unknown}
use Rattle.pb_handlers.proofs.handlers.Handlers.unknown.Given as goal

abbrev pub invariant-loop-word : goal.invariant-loop-word
invariant-loop-word l = first_unknown l.self (drop l.word-index l.words) ≡ first_unknown l.self l.words
