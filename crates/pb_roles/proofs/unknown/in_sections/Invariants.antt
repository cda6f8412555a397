use Rattle.std.proofs.Common.{◌≡◌, drop}
use Rattle.pb_roles.specs.Unknown.{unknown_in_sections}
use Rattle.pb_roles.proofs.unknown.in_sections.Given as goal

abbrev pub invariant-loop-section : goal.invariant-loop-section
invariant-loop-section l = unknown_in_sections l.names l.sections ≡ unknown_in_sections l.names (drop l.section-index l.sections)
