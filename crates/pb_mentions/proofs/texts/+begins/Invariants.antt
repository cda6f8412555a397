use Rattle.std.proofs.Common.{length}
use Rattle.pb_mentions.proofs.texts.+begins.Given as goal

abbrev pub decreases-begins : goal.decreases-begins
decreases-begins l = length l.word.now
