use Rattle.std.proofs.Common.{◌≡◌, ◌++◌}
use Rattle.pb_layers.proofs.lent.listed.Given as goal

abbrev pub invariant-loop-name : goal.invariant-loop-name
invariant-loop-name l = l.entries.items ++ l.name-iterator ≡ l.fn.map.entries
