use Rattle.pb_cli.proofs.Alike.{forks_change_nothing}
use Rattle.pb_cli.proofs.again.forks_change_nothing.Goals as goal

pub returns : goal.returns
returns c = forks_change_nothing
