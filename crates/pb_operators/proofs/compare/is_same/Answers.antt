use Rattle.pb_operators.proofs.Same.{same_answers}
use Rattle.pb_operators.proofs.compare.is_same.Goals as goal

pub returns : goal.returns
returns c = same_answers c.same.result c.args.x.now c.args.y.now c.same.ensures
