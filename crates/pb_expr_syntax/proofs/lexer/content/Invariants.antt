use Rattle.std.proofs.Common.{◌≡◌, ◌-◌, ◌≤◌, false, drop, length}
use Rattle.pb_expr_syntax.specs.Tokens.{text_from}
use Rattle.pb_expr_syntax.proofs.Lexing.{behind}
use Rattle.pb_expr_syntax.proofs.lexer.content.Given as goal

abbrev pub invariant-loop-size : goal.invariant-loop-size
invariant-loop-size l =
    (text_from l.at l.quote false l.bytes ≡ behind l.content.items l.size (text_from l.at l.quote l.is_escape (drop l.size l.bytes))) × (l.size ≤ length l.bytes)

abbrev pub decreases-loop-size : goal.decreases-loop-size
decreases-loop-size l = length l.bytes - l.size
