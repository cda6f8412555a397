use Rattle.std.proofs.Common.{◌≡◌, ◌+◌, ◌-◌, ℕ, None, get_or, length}
use Rattle.pb_strategies.proofs.watched.reach.Given as goal

abbrev pub invariant-loop-sets : goal.invariant-loop-sets
invariant-loop-sets l = (one : ℕ) → get_or l.sets.items one None ≡ get_or l.initial.sets.items one None

abbrev pub decreases-loop-sets : goal.decreases-loop-sets
decreases-loop-sets l = l.place + 1 - length l.sets.items
