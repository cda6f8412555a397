use Rattle.std.proofs.Common.{◌≤◌, ◌-◌}
use Rattle.pb_planes.specs.Words.{AreBetween}
use Rattle.pb_planes.proofs.span.first_word.Given as goal

abbrev pub invariant-loop-low : goal.invariant-loop-low
invariant-loop-low l = AreBetween l.words l.span.low l.span.high → AreBetween l.words l.low l.span.high

abbrev pub decreases-loop-low : goal.decreases-loop-low
decreases-loop-low l = l.span.high - l.low
