use Rattle.std.proofs.Common.{◌≡◌, []}
use Rattle.pb_inventory.specs.Names.{texts, with_names}
use Rattle.pb_inventory.proofs.sorted.list_of.Given as goal

abbrev pub invariant-loop-name : goal.invariant-loop-name
invariant-loop-name l = with_names (texts l.name-iterator) l.list ≡ with_names (texts l.fn.names.keys) []
