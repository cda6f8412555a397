use Rattle.std.proofs.Common.{◌≡◌, map}
use Rattle.std.specs.Prelude.{filter}
use Rattle.std.specs.List.{range_with_len}
use Rattle.pb_inventory.specs.Vars.{is_named, group_name}
use Rattle.pb_inventory.proofs.inventory.Inventory.group_names.Given as goal

abbrev pub invariant-loop-n : goal.invariant-loop-n
invariant-loop-n l = l.names ≡ map (group_name l.self) (filter (is_named l.self l.host.0) (range_with_len 0 l.n))
