use Rattle.std.proofs.Common.{◌≡◌, ◌-◌, ◌^◌}
use Rattle.pb_show.proofs.Going.{Goes}
use Rattle.pb_show.proofs.output.show_lines.Given as goal

abbrev pub invariant-loop-lines : goal.invariant-loop-lines
invariant-loop-lines g l = record {
  going : Goes l.look (g.R.LinesIn.left l.fn.reader) (g.W.BytesOut.taken l.fn.writer) (g.W.BytesOut.taken l.writer) (g.R.LinesIn.left l.reader) l.showing l.lines;
  read : g.R.LinesIn.failures l.reader ≡ g.R.LinesIn.failures l.fn.reader;
  written : g.W.BytesOut.failures l.writer ≡ g.W.BytesOut.failures l.fn.writer;
}

abbrev pub decreases-loop-lines : goal.decreases-loop-lines
decreases-loop-lines g l = 2 ^ 64 - 1 - l.lines
