use Rattle.std.proofs.Common.{◌≡◌, ◌++◌, drop}
use Rattle.std.specs.Prelude.{filter, option_map}
use Rattle.pb_task_vars.specs.Delegates.{stays, host_number}
use Rattle.pb_task_vars.proofs.delegates.staying.Given as goal

abbrev pub invariant-loop-item : goal.invariant-loop-item
invariant-loop-item l = l.all.items ++ filter (stays l.inventory (option_map host_number l.starter)) (drop l.item-index l.items) ≡ filter (stays l.inventory (option_map host_number l.starter)) l.items
