use Rattle.std.proofs.Common.{◌≡◌, ◌++◌, take}
use Rattle.pb_runner.proofs.command.Words.push_all.Given as goal

abbrev pub invariant-loop-word : goal.invariant-loop-word
invariant-loop-word l = l.self ≡ l.initial.self ++ take l.word-index l.words
