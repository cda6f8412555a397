use Rattle.std.proofs.Common.{◌≡◌, ◌≤◌, ◌*◌}
use Rattle.pb_planes.specs.Words.{members}
use Rattle.pb_planes.proofs.words.count_in.Given as goal

abbrev pub invariant-loop-index : goal.invariant-loop-index
invariant-loop-index l = (l.count ≡ members l.words (64 * l.index)) × (l.count ≤ 64 * l.index)
