use Rattle.std.proofs.Common.{◌≡◌, take}
use Rattle.pb_roles.proofs.flush.copies.Given as goal

abbrev pub invariant-loop-word : goal.invariant-loop-word
invariant-loop-word l = l.all ≡ take l.word-index l.words
