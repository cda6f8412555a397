use Rattle.std.proofs.Common.{◌≡◌, ◌++◌, map}
use Rattle.pb_value.specs.Datum.{text}
use Rattle.pb_variables.proofs.put.texts.Given as goal

abbrev pub invariant-loop-name : goal.invariant-loop-name
invariant-loop-name l = map text l.fn.names ≡ l.values.items ++ map text l.name-iterator.rest.items
