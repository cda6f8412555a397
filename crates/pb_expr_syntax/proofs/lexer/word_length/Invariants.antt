use Rattle.std.proofs.Common.{◌≡◌, ◌+◌, ◌-◌, ◌≤◌, drop, length}
use Rattle.std.specs.List.{prefix_len}
use Rattle.pb_value.specs.Words.{continues_name}
use Rattle.pb_expr_syntax.proofs.lexer.word_length.Given as goal

abbrev pub invariant-loop-n : goal.invariant-loop-n
invariant-loop-n l = (prefix_len continues_name l.bytes ≡ l.n + prefix_len continues_name (drop l.n l.bytes)) × (l.n ≤ length l.bytes)

abbrev pub decreases-loop-n : goal.decreases-loop-n
decreases-loop-n l = length l.bytes - l.n
