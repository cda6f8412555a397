use Rattle.std.proofs.Common.{◌≡◌, drop, string_bytes}
use Rattle.pb_operators.specs.Operators.{behind}
use Rattle.pb_operators.proofs.join.behind.Given as goal

abbrev pub invariant-loop-item : goal.invariant-loop-item
invariant-loop-item l = behind (string_bytes l.text) l.between (drop l.item-index l.items) ≡ behind (string_bytes l.fn.front) l.between l.items
