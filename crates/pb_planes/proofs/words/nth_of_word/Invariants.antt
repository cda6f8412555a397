use Rattle.std.proofs.Common.{◌≡◌, ◌+◌}
use Rattle.pb_planes.specs.Words.{ones_below}
use Rattle.pb_planes.proofs.words.nth_of_word.Given as goal

abbrev pub invariant-loop-j : goal.invariant-loop-j
invariant-loop-j l = l.left + ones_below l.word l.j ≡ l.before
