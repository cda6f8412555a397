use Rattle.std.proofs.Common.{◌≡◌, length}
use Rattle.pb_mentions.specs.Mentions.{has_inside}
use Rattle.pb_mentions.proofs.texts.bytes_inside.Given as goal

abbrev pub invariant-loop-rest : goal.invariant-loop-rest
invariant-loop-rest l = has_inside l.word l.bytes ≡ has_inside l.word l.rest

abbrev pub decreases-loop-rest : goal.decreases-loop-rest
decreases-loop-rest l = length l.rest
