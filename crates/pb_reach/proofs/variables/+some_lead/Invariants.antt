use Rattle.std.proofs.Common.{length}
use Rattle.pb_reach.proofs.variables.+some_lead.Given as goal

abbrev pub decreases-some_lead : goal.decreases-some_lead
decreases-some_lead l = length l.maps.now
