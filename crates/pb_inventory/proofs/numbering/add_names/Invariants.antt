use Rattle.std.proofs.Common.{◌≡◌, drop}
use Rattle.pb_inventory.specs.Names.{with_names}
use Rattle.pb_inventory.proofs.numbering.add_names.Given as goal

abbrev pub invariant-loop-name : goal.invariant-loop-name
invariant-loop-name l = with_names (drop l.name-index l.names) l.known ≡ with_names l.names l.fn.known
