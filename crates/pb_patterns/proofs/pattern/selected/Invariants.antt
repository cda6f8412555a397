use Rattle.std.proofs.Common.{take}
use Rattle.pb_patterns.proofs.Chosen.{Selecting}
use Rattle.pb_patterns.proofs.pattern.selected.Given as goal

abbrev pub invariant-loop-element : goal.invariant-loop-element
invariant-loop-element l = Selecting l.inventory (take l.element-index l.elements) l.choice l.unmatched
