use Rattle.std.proofs.Common.{◌≡◌, drop}
use Rattle.pb_inventory.specs.Vars.{put_groups}
use Rattle.pb_variables.proofs.host_groups.lend_groups.Given as goal

abbrev pub invariant-loop-group : goal.invariant-loop-group
invariant-loop-group l = put_groups l.inventory (drop l.group-index l.order) l.lending ≡ put_groups l.inventory l.order l.fn.lending
