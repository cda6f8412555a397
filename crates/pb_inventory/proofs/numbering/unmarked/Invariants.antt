use Rattle.std.proofs.Common.{◌≡◌}
use Rattle.std.specs.Prelude.{filter}
use Rattle.std.specs.List.{range_with_len}
use Rattle.pb_inventory.specs.Graph.{is_unmarked}
use Rattle.pb_inventory.proofs.numbering.unmarked.Given as goal

abbrev pub invariant-loop-n : goal.invariant-loop-n
invariant-loop-n l = l.numbers.items ≡ filter (is_unmarked l.marks) (range_with_len 0 l.n)
