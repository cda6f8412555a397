use Rattle.pb_laws.proofs.OwnHosts.{hosts_are_own}
use Rattle.pb_laws.proofs.hosts_stay_in_their_batches.Goals as goal

pub returns : goal.returns
returns c = hosts_are_own
