use Rattle.pb_groups.proofs.Raising.{Raising}
use Rattle.std.proofs.Common.{◌≡◌, length}
use Rattle.pb_groups.proofs.depths.raise.Given as goal

abbrev pub invariant-loop-link : goal.invariant-loop-link
invariant-loop-link l = (length l.depths ≡ length l.fn.depths) × Raising l.links l.depth l.depths l.link-index l.raised
