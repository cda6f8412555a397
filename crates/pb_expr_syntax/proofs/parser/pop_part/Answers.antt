use Rattle.pb_expr_syntax.proofs.ViewLemmas.{popped}
use Rattle.pb_expr_syntax.proofs.parser.pop_part.Goals as goal

pub returns-clause-some : goal.returns-clause-some
returns-clause-some c = popped c.pop.result c.args.parts.now.items c.pop.new.self.items c.pop.ensures.items
