use Rattle.std.proofs.Common.{◌≡◌, ◌++◌, drop}
use Rattle.std.specs.Prelude.{filter, not}
use Rattle.pb_inventory.specs.Vars.{is_host}
use Rattle.pb_inventory.proofs.inventory.Inventory.no_hosts.Given as goal

abbrev pub invariant-loop-name : goal.invariant-loop-name
invariant-loop-name l = l.strangers ++ filter (λ name. not (is_host l.self name)) (drop l.name-index l.names) ≡ filter (λ name. not (is_host l.self name)) l.names
