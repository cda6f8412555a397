use Rattle.std.proofs.Common.{◌≡◌, ◌≤◌, ◌-◌, length, take}
use Rattle.pb_driver.specs.Taken.{with_more}
use Rattle.pb_driver.proofs.line_out.put_all.Given as goal

abbrev pub invariant-loop-at : goal.invariant-loop-at
invariant-loop-at g l = record {
  within : l.at ≤ length l.bytes;
  taken : g.W.LineOut.taken l.writer ≡ with_more (g.W.LineOut.taken l.fn.writer) (take l.at l.bytes);
  failures : g.W.LineOut.failures l.writer ≡ g.W.LineOut.failures l.fn.writer;
}

abbrev pub decreases-loop-at : goal.decreases-loop-at
decreases-loop-at g l = length l.bytes - l.at
