use Rattle.std.proofs.Common.{◌≡◌, Ok, take}
use Rattle.pb_patterns.specs.Expressions.{AreTaken}
use Rattle.pb_patterns.specs.Reading.{each_of, each_expression}
use Rattle.pb_patterns.proofs.reading.each_of.Given as goal

abbrev pub invariant-loop-text : goal.invariant-loop-text
invariant-loop-text l = (each_of (take l.text-index l.texts) ≡ Ok l.elements) × AreTaken (each_expression (take l.text-index l.texts))
