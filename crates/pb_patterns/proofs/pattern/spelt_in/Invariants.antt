use Rattle.std.proofs.Common.{◌≡◌, take}
use Rattle.std.specs.List.{flat_map}
use Rattle.pb_patterns.specs.Spelling.{spelt}
use Rattle.pb_patterns.proofs.pattern.spelt_in.Given as goal

abbrev pub invariant-loop-text : goal.invariant-loop-text
invariant-loop-text l = l.spelt.items ≡ flat_map spelt (take l.text-index l.texts)
