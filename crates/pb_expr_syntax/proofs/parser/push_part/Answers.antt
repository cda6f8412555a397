use Rattle.std.proofs.Common.{[]}
use Rattle.pb_expr_syntax.proofs.ViewLemmas.{parts_onto-last}
use Rattle.pb_expr_syntax.proofs.parser.push_part.Goals as goal

pub returns : goal.returns
returns c = rw c.in_ok-push.ensures.items (parts_onto-last [] c.args.parts.now.items c.args.part)
