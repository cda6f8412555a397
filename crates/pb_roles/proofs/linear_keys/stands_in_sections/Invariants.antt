use Rattle.std.proofs.Common.{◌≡◌, drop}
use Rattle.std.specs.List.{list_any}
use Rattle.pb_roles.specs.LinearKeys.{section_has}
use Rattle.pb_roles.proofs.linear_keys.stands_in_sections.Given as goal

abbrev pub invariant-loop-section : goal.invariant-loop-section
invariant-loop-section l = list_any (section_has l.key) l.sections ≡ list_any (section_has l.key) (drop l.section-index l.sections)
