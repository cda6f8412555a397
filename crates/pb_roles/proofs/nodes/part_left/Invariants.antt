use Rattle.std.proofs.Common.{◌≡◌, ◌+◌, drop}
use Rattle.pb_roles.specs.Seen.{places_in_all}
use Rattle.pb_roles.proofs.nodes.part_left.Given as goal

abbrev pub invariant-loop-section : goal.invariant-loop-section
invariant-loop-section l = l.left + places_in_all l.handlers l.sections ≡ l.fn.places + places_in_all l.handlers (drop l.section-index l.sections)
