use Rattle.std.proofs.Common.{◌≡◌, ◌++◌, drop, Ok}
use Rattle.pb_value.specs.Reading.{and_then}
use Rattle.pb_items.specs.Calls.{words_in}
use Rattle.pb_items.proofs.calls.words_in.Given as goal

abbrev pub invariant-loop-value : goal.invariant-loop-value
invariant-loop-value l =
    words_in l.scope l.values ≡ and_then (words_in l.scope (drop l.value-index l.values)) (λ ws. Ok (l.words.items ++ ws))
