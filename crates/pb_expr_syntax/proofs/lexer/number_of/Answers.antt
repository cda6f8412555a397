use Rattle.std.proofs.Common.{◌<◌, ◌+◌, ◌*◌, ◌-◌, get_or, ap, sym, cond, None, Some, pos, arith}
use Rattle.pb_expr_syntax.specs.Tokens.{number_after}
use Rattle.pb_expr_syntax.proofs.Lexing.{number_past}
use Rattle.pb_expr_syntax.proofs.lexer.number_of.Goals as goal

pub returns-then-number-gt9223372036854775807 : goal.returns-then-number-gt9223372036854775807
returns-then-number-gt9223372036854775807 c =
    let over : 9223372036854775807 < c.loop-digit.number * 10 + (get_or c.args.digits.now c.loop-digit.digit-index 0 - 48) = omega (arith, c.saturating_sub.ensures) in
    ap (λ t. cond t (Some (pos (number_after 0 c.args.digits.now))) None) (sym (number_past c.loop-digit.number 9223372036854775807 c.loop-digit.digit-index c.args.digits.now c.loop-digit.invariant.0 (omega arith) over))
