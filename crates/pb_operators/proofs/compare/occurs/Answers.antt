use Rattle.pb_operators.proofs.Texts.{occurs_answers}
use Rattle.pb_operators.proofs.compare.occurs.Goals as goal

pub returns : goal.returns
returns c = occurs_answers c.contains.result c.args.text.now c.args.whole.now c.contains.ensures.cases
