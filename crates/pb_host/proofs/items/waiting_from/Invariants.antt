use Rattle.std.proofs.Common.{◌≤◌}
use Rattle.pb_host.specs.Kept.{first_waiting}
use Rattle.pb_host.proofs.items.waiting_from.Given as goal

abbrev pub invariant-loop-number : goal.invariant-loop-number
invariant-loop-number l = l.number ≤ first_waiting l.items
