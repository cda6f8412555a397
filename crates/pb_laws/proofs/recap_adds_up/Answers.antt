use Rattle.pb_laws.proofs.AddingUp.{recap_adds_up}
use Rattle.pb_laws.proofs.recap_adds_up.Goals as goal

pub returns : goal.returns
returns c = recap_adds_up
