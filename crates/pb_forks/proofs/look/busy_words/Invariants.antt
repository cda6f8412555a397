use Rattle.std.proofs.Common.{◌≡◌, ◌+◌, ◌≤◌, take}
use Rattle.pb_forks.specs.Views.{idle_words}
use Rattle.pb_forks.proofs.look.busy_words.Given as goal

abbrev pub invariant-loop-word : goal.invariant-loop-word
invariant-loop-word l = (l.busy + idle_words (take l.word-index l.words) ≡ l.word-index) × (l.busy ≤ l.word-index)
