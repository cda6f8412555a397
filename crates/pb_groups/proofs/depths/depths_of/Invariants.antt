use Rattle.std.proofs.Common.{◌≡◌, ◌<◌, ℕ, length}
use Rattle.std.specs.Prelude.{slice_index}
use Rattle.pb_groups.specs.Depths.{IsLevel}
use Rattle.pb_groups.proofs.depths.depths_of.Given as goal

abbrev pub invariant-loop-depth : goal.invariant-loop-depth
invariant-loop-depth l = (length l.depths.items ≡ l.groups) × IsLevel l.links l.depth l.depths.items × (0 < l.depth → (group : ℕ) × (slice_index l.depths.items group ≡ l.depth))
