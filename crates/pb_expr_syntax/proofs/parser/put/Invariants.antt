use Rattle.std.proofs.Common.{◌≡◌, [], ◌++◌, ◌≤◌, drop, length}
use Rattle.pb_expr_syntax.specs.Views.{symbols_onto}
use Rattle.pb_expr_syntax.proofs.parser.put.Given as goal

abbrev pub invariant-loop-i : goal.invariant-loop-i
invariant-loop-i l = (symbols_onto [] l.symbols.items ≡ drop l.i l.alternative ++ symbols_onto [] l.fn.symbols.items) × (l.i ≤ length l.alternative)

abbrev pub decreases-loop-i : goal.decreases-loop-i
decreases-loop-i l = l.i
