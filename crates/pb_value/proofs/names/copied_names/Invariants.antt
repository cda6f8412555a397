use Rattle.std.proofs.Common.{◌≡◌, List, ◌++◌, String, Global, string_cmp}
use Rattle.std.specs.List.Sorted.{IsStrictlySortedBy}
use Rattle.std.specs.Map.{keys_of}
use Rattle.pb_value.specs.Datum.{Datum, named}
use Rattle.pb_value.specs.Names.{spelled}
use Rattle.pb_value.proofs.names.copied_names.Given as goal

abbrev pub invariant-loop-name : goal.invariant-loop-name
invariant-loop-name l =
    (done : List (String Global × Datum)) × (l.dict ≡ named (done ++ l.name-iterator)) × IsStrictlySortedBy string_cmp (keys_of (done ++ l.name-iterator)) × (spelled l.names.items ≡ keys_of (named done))
