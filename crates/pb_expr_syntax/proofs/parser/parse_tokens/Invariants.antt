use Rattle.std.proofs.Common.{[], drop, length}
use Rattle.pb_expr_syntax.specs.Views.{symbols_onto, parts_onto}
use Rattle.pb_expr_syntax.proofs.Fuel.{fuel}
use Rattle.pb_expr_syntax.proofs.Parsed.{Running}
use Rattle.pb_expr_syntax.proofs.parser.parse_tokens.Given as goal

abbrev pub invariant-loop-symbol : goal.invariant-loop-symbol
invariant-loop-symbol l = Running l.tokens l.machine.next (symbols_onto [] l.machine.symbols.items) (parts_onto [] l.machine.parts.items)

abbrev pub decreases-loop-symbol : goal.decreases-loop-symbol
decreases-loop-symbol l = fuel (symbols_onto [] l.machine.symbols.items) (length (drop l.machine.next l.tokens))
