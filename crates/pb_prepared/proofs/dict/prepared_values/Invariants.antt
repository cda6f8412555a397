use Rattle.std.proofs.Common.{◌≡◌, ◌++◌}
use Rattle.std.specs.Map.{values_of}
use Rattle.pb_value.specs.Datum.{named}
use Rattle.pb_prepared.proofs.dict.prepared_values.Given as goal

abbrev pub invariant-loop-name : goal.invariant-loop-name
invariant-loop-name l = values_of l.dict ≡ l.values.items ++ values_of (named l._name-iterator)
