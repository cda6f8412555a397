use Rattle.std.proofs.Common.{◌≡◌, take}
use Rattle.pb_names.specs.Kept.{texts}
use Rattle.pb_inventory.proofs.named.names_of.Given as goal

abbrev pub invariant-loop-name : goal.invariant-loop-name
invariant-loop-name l = l.names ≡ texts (take l.name-index l.name-items)
