use Rattle.std.proofs.Common.{◌≡◌, ◌++◌, drop}
use Rattle.std.specs.Prelude.{map}
use Rattle.pb_inventory.proofs.numbering.hosts_of.Given as goal

abbrev pub invariant-loop-own_host : goal.invariant-loop-own_host
invariant-loop-own_host l = l.hosts.items ++ map (λ o. o.host.0) (drop l.own_host-index l.own) ≡ map (λ o. o.host.0) l.own
