use Rattle.pb_show.proofs.Fronts.{piece_within, piece_taken}
use Rattle.pb_show.proofs.streams.put_all.Goals as goal

pub loop-at-preserved : goal.loop-at-preserved
loop-at-preserved g c =
    let at = c.loop-at in
    record {
      within = piece_within at.at c.in-Ok.n c.args.bytes.now at.invariant.within c.in-Ok.ensures.bound;
      taken = piece_taken at.at c.in-Ok.n c.args.bytes.now (g.W.Write.contents c.args.writer.now) (g.W.Write.contents at.writer) (g.W.Write.contents c.write.new.self) at.invariant.within at.invariant.taken c.in-Ok.ensures.bytes;
    }
