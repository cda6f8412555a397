use Rattle.std.proofs.Common.{◌≤◌, ◌-◌}
use Rattle.pb_planes.specs.Words.{AreBetween}
use Rattle.pb_planes.proofs.span.end_word.Given as goal

abbrev pub invariant-loop-high : goal.invariant-loop-high
invariant-loop-high l = record {
  within : l.high ≤ l.span.high;
  between : AreBetween l.words l.span.low l.span.high → AreBetween l.words l.span.low l.high;
}

abbrev pub decreases-loop-high : goal.decreases-loop-high
decreases-loop-high l = l.high
