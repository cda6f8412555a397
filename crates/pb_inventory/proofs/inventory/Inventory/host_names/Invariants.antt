use Rattle.std.proofs.Common.{◌≡◌, ◌≤◌, ◌-◌, map, length}
use Rattle.std.specs.Prelude.{filter}
use Rattle.std.specs.List.{range_with_len}
use Rattle.pb_groups.specs.Merging.{has_member}
use Rattle.pb_inventory.specs.Vars.{host_name, graph_of}
use Rattle.pb_inventory.proofs.inventory.Inventory.host_names.Given as goal

abbrev pub invariant-loop-host : goal.invariant-loop-host
invariant-loop-host l = record {
  within : l.from ≤ length l.self.hosts;
  names : l.names ≡ map (host_name l.self) (filter (has_member (graph_of l.self) l.fn.group.0) (range_with_len 0 l.from));
}

abbrev pub decreases-loop-host : goal.decreases-loop-host
decreases-loop-host l = length l.self.hosts - l.from
