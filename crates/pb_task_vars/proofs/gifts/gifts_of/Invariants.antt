use Rattle.std.proofs.Common.{◌≡◌, ◌++◌, drop}
use Rattle.pb_task_vars.specs.Gifts.{gifts_of}
use Rattle.pb_task_vars.proofs.gifts.gifts_of.Given as goal

abbrev pub invariant-loop-number : goal.invariant-loop-number
invariant-loop-number l = gifts_of l.inventory l.host.0 l.gives l.items ≡ l.gifts.items ++ gifts_of l.inventory l.host.0 l.gives (drop l.number l.items)
