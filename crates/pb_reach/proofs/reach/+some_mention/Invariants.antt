use Rattle.std.proofs.Common.{length}
use Rattle.pb_reach.proofs.reach.+some_mention.Given as goal

abbrev pub decreases-some_mention : goal.decreases-some_mention
decreases-some_mention l = length l.maps.now
