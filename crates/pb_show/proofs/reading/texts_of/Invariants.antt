use Rattle.std.proofs.Common.{◌≡◌, ◌++◌, drop, map}
use Rattle.serde_json.specs.View.{view}
use Rattle.pb_show.specs.Reading.{texts_of}
use Rattle.pb_show.proofs.reading.texts_of.Given as goal

abbrev pub invariant-loop-value : goal.invariant-loop-value
invariant-loop-value l = l.texts ++ texts_of (map view (drop l.value-index l.values)) ≡ texts_of (map view l.values)
