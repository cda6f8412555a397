use Rattle.std.proofs.Common.{◌≡◌, ◌≤◌, take}
use Rattle.std.specs.Prelude.{count_by}
use Rattle.pb_forks.specs.Views.{is_out}
use Rattle.pb_forks.proofs.look.words_out.Given as goal

abbrev pub invariant-loop-word : goal.invariant-loop-word
invariant-loop-word l = (l.out ≡ count_by is_out (take l.word-index l.words)) × (l.out ≤ l.word-index)
