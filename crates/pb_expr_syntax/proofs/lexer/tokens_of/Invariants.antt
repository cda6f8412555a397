use Rattle.std.proofs.Common.{◌≡◌, ◌++◌, ◌-◌, ◌≤◌, drop, length}
use Rattle.pb_value.specs.Reading.{map_ok}
use Rattle.pb_expr_syntax.specs.Tokens.{tokens_from}
use Rattle.pb_expr_syntax.proofs.lexer.tokens_of.Given as goal

abbrev pub invariant-loop-at : goal.invariant-loop-at
invariant-loop-at l =
    (tokens_from 0 0 l.text ≡ map_ok (λ ts. l.tokens.items ++ ts) (tokens_from 0 l.at (drop l.at l.text))) × (l.at ≤ length l.text)

abbrev pub decreases-loop-at : goal.decreases-loop-at
decreases-loop-at l = length l.text - l.at
