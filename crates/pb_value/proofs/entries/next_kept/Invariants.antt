use Rattle.std.proofs.Common.{◌≡◌}
use Rattle.pb_value.specs.Left.{shared_left}
use Rattle.pb_value.proofs.entries.next_kept.Given as goal

abbrev pub invariant-loop-left : goal.invariant-loop-left
invariant-loop-left g l = shared_left l.left ≡ shared_left l.fn.left

abbrev pub decreases-loop-left : goal.decreases-loop-left
decreases-loop-left g l = l.left.gone
