use Rattle.pb_confluence.proofs.Orders.{strategies_agree}
use Rattle.pb_confluence.proofs.strategies_agree.Goals as goal

pub returns : goal.returns
returns c = strategies_agree
