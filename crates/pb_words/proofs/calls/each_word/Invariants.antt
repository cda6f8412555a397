use Rattle.std.proofs.Common.{◌≡◌, ◌++◌, drop, Ok}
use Rattle.pb_value.specs.Reading.{and_then}
use Rattle.pb_words.specs.Calls.{each_word}
use Rattle.pb_words.proofs.calls.each_word.Given as goal

abbrev pub invariant-loop-value : goal.invariant-loop-value
invariant-loop-value l =
    each_word l.values ≡ and_then (each_word (drop l.value-index l.values)) (λ ws. Ok (l.words.items ++ ws))
