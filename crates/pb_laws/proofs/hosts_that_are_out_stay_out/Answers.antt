use Rattle.pb_laws.proofs.StayingOut.{outs_stay_out}
use Rattle.pb_laws.proofs.hosts_that_are_out_stay_out.Goals as goal

pub returns : goal.returns
returns c = outs_stay_out
