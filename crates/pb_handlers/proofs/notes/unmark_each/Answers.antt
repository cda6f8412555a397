use Rattle.std.proofs.Common.{◌<◌, length, arith}
use Rattle.std.proofs.lemmas.List.Edits.{map_over_more}
use Rattle.pb_handlers.specs.Notes.{unmarked_all}
use Rattle.pb_handlers.proofs.notes.unmark_each.Goals as goal

pub loop-marks-preserved : goal.loop-marks-preserved
loop-marks-preserved c =
    let inside : c.loop-marks.marks-index < length c.args.hosts.now = omega arith in
    rw (c.clear.ensures, ← c.marks-item.is) (map_over_more unmarked_all c.args.hosts.now c.loop-marks.hosts c.loop-marks.marks-index c.marks-item.result inside c.loop-marks.invariant c.marks-item.is)
