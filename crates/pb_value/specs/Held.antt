-- The entries of a dict, and the bytes of a text, in whichever way they stand.
use Rattle.std.specs.Prelude.{ℕ, List, length, String, string_bytes}
use Rattle.std.specs.declared.alloc.Global.{Global}
use Rattle.pb_value.specs.Datum.{Datum}
use Rattle.pb_value.specs.Names.{kept}
use Rattle.pb_value.specs.declared.val.Store.{Store}
use Rattle.pb_value.specs.declared.val.Store.TheVariants.{Few, Many, Named}
use Rattle.pb_value.specs.declared.text.Bytes.{Bytes}
use Rattle.pb_value.specs.declared.text.Bytes.TheVariants.{Short, Long}

-- the entries of a store; where names are kept for many, those with a value in this one
abbrev pub held : Store → List (String Global × Datum)
held (Few row) = row.items
held (Many map) = map.entries
held (Named names values gone) = kept gone names values.value.items

-- how many values a store has
abbrev pub values_in : Store → ℕ
values_in (Few row) = length row.items
values_in (Many map) = length map.entries
values_in (Named names values gone) = length values.value.items

abbrev pub bytes_of : Bytes → List ℕ
bytes_of (Short s) = s.bytes
bytes_of (Long s) = string_bytes s
