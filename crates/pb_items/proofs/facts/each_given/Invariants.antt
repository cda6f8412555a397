use Rattle.std.proofs.Common.{◌≡◌, ◌++◌, drop, Ok}
use Rattle.pb_value.specs.Reading.{and_then}
use Rattle.pb_items.specs.Facts.{each_given}
use Rattle.pb_items.proofs.facts.each_given.Given as goal

abbrev pub invariant-loop-value : goal.invariant-loop-value
invariant-loop-value l =
    each_given l.scope l.values ≡ and_then (each_given l.scope (drop l.value-index l.values)) (λ vs. Ok (l.given.items ++ vs))
