use Rattle.std.proofs.Common.{◌≡◌, drop, max}
use Rattle.pb_roles.specs.Seen.{depth_in_all}
use Rattle.pb_roles.proofs.nodes.is_part_deeper.Given as goal

abbrev pub invariant-loop-section : goal.invariant-loop-section
invariant-loop-section l = max l.levels (depth_in_all l.sections) ≡ max l.levels (depth_in_all (drop l.section-index l.sections))
