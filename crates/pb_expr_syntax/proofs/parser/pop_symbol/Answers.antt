use Rattle.pb_expr_syntax.proofs.ViewLemmas.{popped_symbol}
use Rattle.pb_expr_syntax.proofs.parser.pop_symbol.Goals as goal

pub returns-clause-some : goal.returns-clause-some
returns-clause-some c = popped_symbol c.pop.result c.args.symbols.now.items c.pop.new.self.items c.pop.ensures.items
