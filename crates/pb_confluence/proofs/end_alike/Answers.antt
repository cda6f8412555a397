use Rattle.pb_confluence.proofs.Forks.{end_alike}
use Rattle.pb_confluence.proofs.end_alike.Goals as goal

pub returns : goal.returns
returns c = end_alike
