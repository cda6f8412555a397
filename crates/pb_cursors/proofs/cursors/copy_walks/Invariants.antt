use Rattle.std.proofs.Common.{◌≡◌, take}
use Rattle.pb_cursors.proofs.cursors.copy_walks.Given as goal

abbrev pub invariant-loop-walk : goal.invariant-loop-walk
invariant-loop-walk l = l.copies.items ≡ take l.walk-index l.walks
