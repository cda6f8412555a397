use Rattle.pb_strategies.proofs.Watching.{first_before, none_before}
use Rattle.pb_strategies.proofs.standings.has_before.Goals as goal

pub returns-in-Some : goal.returns-in-Some
returns-in-Some c = first_before c.args.set.now c.args.host c.in-Some.first.0 c.in-Some.ensures.some

pub returns-in-None : goal.returns-in-None
returns-in-None c = none_before c.args.set.now c.args.host c.in-None.ensures.none
