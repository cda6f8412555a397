use Rattle.pb_cli.proofs.Alike.{plays_agree}
use Rattle.pb_cli.proofs.again.plays_agree.Goals as goal

pub returns : goal.returns
returns c = plays_agree
