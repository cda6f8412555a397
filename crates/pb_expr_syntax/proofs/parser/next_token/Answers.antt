use Rattle.std.proofs.Common.{add-one, arith}
use Rattle.pb_expr_syntax.proofs.ViewLemmas.{dropped}
use Rattle.pb_expr_syntax.proofs.parser.next_token.Goals as goal

pub returns-then-next-tokens-clause-some : goal.returns-then-next-tokens-clause-some
returns-then-next-tokens-clause-some c =
    (omega arith, rw add-one (dropped c.args.tokens.now c.args.next c.index-tokens-next.result (omega arith) c.index-tokens-next.is))
