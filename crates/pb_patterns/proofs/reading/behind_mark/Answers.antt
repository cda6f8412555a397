use Rattle.pb_patterns.proofs.Faults.{mark_cut}
use Rattle.pb_patterns.proofs.reading.behind_mark.Goals as goal

pub range_from-requires : goal.range_from-requires
range_from-requires c =
    λ some. mark_cut c.args.text.now c.as_bytes.result.now c.mark_of.result c.as_bytes.ensures.value c.as_bytes.ensures.utf8 c.mark_of.ensures c.in_default.not-Unmarked
