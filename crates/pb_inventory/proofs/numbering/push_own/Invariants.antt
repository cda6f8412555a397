use Rattle.std.proofs.Common.{◌≡◌, ◌++◌, drop}
use Rattle.std.specs.Prelude.{map}
use Rattle.pb_groups.specs.Members.{own_of}
use Rattle.pb_inventory.proofs.numbering.push_own.Given as goal

abbrev pub invariant-loop-host : goal.invariant-loop-host
invariant-loop-host l = l.to.items ++ map (own_of l.group) (drop l.host-index l.hosts) ≡ l.fn.to.items ++ map (own_of l.group) l.hosts
