use Rattle.std.proofs.Common.{◌≡◌, ◌++◌, drop}
use Rattle.std.specs.Prelude.{option_map}
use Rattle.pb_value.specs.Datum.{items_of}
use Rattle.pb_variables.specs.Connector.{texts_in}
use Rattle.pb_variables.proofs.connector.texts_in.Given as goal

abbrev pub invariant-loop-value : goal.invariant-loop-value
invariant-loop-value l = texts_in (items_of l.values) ≡ option_map (λ others. l.words ++ others) (texts_in (items_of (drop l.value-index l.values)))
