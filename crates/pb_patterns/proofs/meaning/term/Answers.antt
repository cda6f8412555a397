use Rattle.std.proofs.Common.{arith, sym}
use Rattle.pb_patterns.proofs.Faults.{byte_cut}
use Rattle.pb_patterns.proofs.meaning.term.Goals as goal

pub range-requires-clause-end_boundary : goal.range-requires-clause-end_boundary
range-requires-clause-end_boundary c = byte_cut c.args.text.now _ 91 c.in-Some.at c.as_bytes-bytes.ensures.value (omega arith) (sym c.in-Some.ensures)
