use Rattle.std.proofs.Common.{◌≡◌, drop}
use Rattle.pb_inventory.specs.Names.{all_in_place}
use Rattle.pb_inventory.proofs.sorted.SortedNames.insert_all.Given as goal

abbrev pub invariant-loop-name : goal.invariant-loop-name
invariant-loop-name l = all_in_place (drop l.name-index l.names) l.self ≡ all_in_place l.names l.fn.self
