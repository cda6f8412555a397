use Rattle.pb_value.proofs.KeptNames.{spot_all}
use Rattle.pb_value.proofs.shared.+spot.Goals as goal

pub returns-then-gone-eq0-clause-value : goal.returns-then-gone-eq0-clause-value
returns-then-gone-eq0-clause-value t c = rw c.if-gone-eq0.true (spot_all c.args.at)
