use Rattle.std.proofs.Common.{◌≡◌, ◌++◌}
use Rattle.pb_play_reading.proofs.commands.prepared.Given as goal

abbrev pub invariant-loop-word : goal.invariant-loop-word
invariant-loop-word l = l.fn.words ≡ l.all.items ++ l.word-iterator.rest.items
