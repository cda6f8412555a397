use Rattle.std.proofs.Common.{◌≡◌, drop}
use Rattle.pb_inventory.specs.Vars.{put_groups}
use Rattle.pb_inventory.proofs.inventory.Inventory.put_groups.Given as goal

abbrev pub invariant-loop-group : goal.invariant-loop-group
invariant-loop-group l = put_groups l.self (drop l.group-index l.order) l.known ≡ put_groups l.self l.order l.fn.known
