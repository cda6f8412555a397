use Rattle.std.proofs.Common.{◌≡◌, length, drop}
use Rattle.std.specs.Str.{chars}
use Rattle.pb_words.specs.Cutting.{resumed}
use Rattle.pb_words.specs.Words.{between}
use Rattle.pb_words.proofs.words.cut.Given as goal

abbrev pub invariant-loop-c : goal.invariant-loop-c
invariant-loop-c l = resumed l.cutter (drop (length l.yielded) (chars l.text)) ≡ between (chars l.text)
