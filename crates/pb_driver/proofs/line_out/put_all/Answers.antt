use Rattle.pb_driver.proofs.Pieces.{piece_within, piece_taken, none_failed}
use Rattle.pb_driver.proofs.line_out.put_all.Goals as goal

pub loop-at-preserved : goal.loop-at-preserved
loop-at-preserved g c =
    let at = c.loop-at in
    record {
      within = piece_within at.at c.in_ok-n.n c.args.bytes.now at.invariant.within c.in_ok-n.ensures.count;
      taken = piece_taken at.at c.in_ok-n.n c.args.bytes.now (g.W.LineOut.taken c.args.writer.now) (g.W.LineOut.taken at.writer) (g.W.LineOut.taken c.put.new.self) at.invariant.within at.invariant.taken c.in_ok-n.ensures.taken;
      failures = none_failed _ c.put.result c.in_ok-n.n (g.W.LineOut.failures c.args.writer.now) (g.W.LineOut.failures c.put.new.self) (g.W.LineOut.failures at.writer) c.in_ok-n.was c.if-n-eq0.false at.invariant.failures c.put.ensures.failures;
    }
