use Rattle.std.proofs.Common.{length, ◌-◌, ◌≤◌}
use Rattle.pb_planes.proofs.Combined.{IsCombinedTo}
use Rattle.pb_planes.proofs.words.combine_words.Given as goal

abbrev pub invariant-loop-at : goal.invariant-loop-at
invariant-loop-at l = (l.at ≤ length l.to) × IsCombinedTo l.how l.to l.fn.to l.from l.at

abbrev pub decreases-loop-at : goal.decreases-loop-at
decreases-loop-at l = length l.to - l.at
