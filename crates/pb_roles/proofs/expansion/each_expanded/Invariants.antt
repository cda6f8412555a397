use Rattle.std.proofs.Common.{◌≡◌, ◌++◌, Ok}
use Rattle.pb_value.specs.Reading.{and_then}
use Rattle.pb_roles.specs.Plays.{expansion_of}
use Rattle.pb_roles.proofs.expansion.each_expanded.Given as goal

abbrev pub invariant-loop-play : goal.invariant-loop-play
invariant-loop-play l = expansion_of l.files l.fn.plays ≡ and_then (expansion_of l.files l.play-iterator.rest.items) (λ rest. Ok (l.all ++ rest))
