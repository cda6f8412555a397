use Rattle.std.proofs.Common.{◌≡◌, ◌++◌}
use Rattle.pb_roles.specs.Building.{section_places}
use Rattle.pb_roles.proofs.placing.push_part.Given as goal

abbrev pub invariant-loop-section : goal.invariant-loop-section
invariant-loop-section l =
    l.places.items ++ section_places l.flushes l.keys l.section-iterator.rest.items ≡ l.fn.places.items ++ section_places l.flushes l.keys l.fn.sections
