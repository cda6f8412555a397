use Rattle.std.proofs.Common.{◌≡◌, ◌≤◌, drop}
use Rattle.pb_expr_syntax.specs.Tokens.{number_after}
use Rattle.pb_expr_syntax.proofs.lexer.number_of.Given as goal

abbrev pub invariant-loop-digit : goal.invariant-loop-digit
invariant-loop-digit l = (number_after 0 l.digits ≡ number_after l.number (drop l.digit-index l.digits)) × (l.number ≤ 9223372036854775807)
