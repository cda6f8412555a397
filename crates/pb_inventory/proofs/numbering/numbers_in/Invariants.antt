use Rattle.std.proofs.Common.{◌≡◌, ◌++◌, drop}
use Rattle.pb_inventory.specs.Graph.{numbers_of}
use Rattle.pb_inventory.proofs.numbering.numbers_in.Given as goal

abbrev pub invariant-loop-name : goal.invariant-loop-name
invariant-loop-name l = numbers_of l.known l.names ≡ l.numbers.items ++ numbers_of l.known (drop l.name-index l.names)
