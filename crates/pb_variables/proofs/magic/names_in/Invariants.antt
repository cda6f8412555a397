use Rattle.std.proofs.Common.{◌≡◌, map}
use Rattle.std.specs.Prelude.{filter}
use Rattle.std.specs.List.{range_with_len}
use Rattle.pb_planes.specs.Set.{is_in}
use Rattle.pb_inventory.specs.Vars.{host_name}
use Rattle.pb_variables.proofs.magic.names_in.Given as goal

abbrev pub invariant-loop-n : goal.invariant-loop-n
invariant-loop-n l = l.names ≡ map (host_name l.inventory) (filter (is_in l.hosts) (range_with_len 0 l.n))
