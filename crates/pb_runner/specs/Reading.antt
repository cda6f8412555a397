-- The table of outcomes that bytes spell, or the first fault in them: the keys of an object are looked at in byte order, lists from the
-- front, and a missing key comes after the object's other keys.
use Rattle.std.specs.Prelude.{ℕ, pos, List, [], Result, Ok, Err, Option, Some, None, codes, nat_lt, unwrap_or, if◌then◌else◌}
use Rattle.serde_json.specs.Data as json
use Rattle.serde_json.specs.Find.{as_u64}
use Rattle.pb_value.specs.Bytes.{json_in}
use Rattle.pb_value.specs.Reading.{and_then}
use Rattle.pb_outcome.specs.Reading.{outcome_of}
use Rattle.pb_outcome.specs.declared.fault.OutcomeFault.{OutcomeFault}
use Rattle.pb_outcome.specs.declared.fault.OutcomeFault.TheVariants as outcome_fault
use Rattle.pb_outcome.specs.declared.outcome.Form.{Form}
use Rattle.pb_outcome.specs.declared.outcome.Form.TheVariants.{Ran}
use Rattle.pb_reading.specs.Fields.{◌>>=◌, Part, field, others, no_other, object, rule}
use Rattle.pb_reading.specs.Reading.{Reading, WrongShape, Own, wrong, required, each_of}
use Rattle.pb_reading.specs.Simple.{text}
use Rattle.pb_runner.specs.declared.fault.TableFault.{TableFault}
use Rattle.pb_runner.specs.declared.fault.TableFault.TheVariants as table_fault
use Rattle.pb_runner.specs.declared.reading.NoOtherKey.{NoOtherKey}
use Rattle.pb_runner.specs.declared.table.Row.{Row}
use Rattle.pb_runner.specs.declared.table.Table.{Table}

-- a number of 32 bits without a sign
abbrev pub small : List ℕ → ℕ → Reading ℕ TableFault
small path n = if nat_lt n 4294967296 then Ok n else wrong path

abbrev pub number : List ℕ → json.Data → Reading ℕ TableFault
number path (json.number n) = and_then (required path (as_u64 n)) (small path)
number path d = wrong path

-- a fault in an outcome as one of the file
abbrev pub of_outcome : List ℕ → Result Form OutcomeFault → Reading Form TableFault
of_outcome path (Ok o) = Ok o
of_outcome path (Err outcome_fault.TooLarge) = wrong path
of_outcome path (Err (outcome_fault.WrongShape met)) = wrong met
of_outcome path (Err outcome_fault.Memory) = Err (Own table_fault.Memory)

abbrev pub outcome : List ℕ → json.Data → Reading Form TableFault
outcome path d = of_outcome path (outcome_of path d)

-- every key of a row and of the table is a field
abbrev pub key : {A : Type 0} → List ℕ → (List ℕ → json.Data → Reading A TableFault) → Part NoOtherKey TableFault (Option A)
key = field no_other

unfoldable pub row : List ℕ → json.Data → Reading Row TableFault
row path = object (record {}) (do
  attempt ← key (codes "attempt") number
  host ← key (codes "host") text
  item ← key (codes "item") number
  outcome ← key (codes "outcome") outcome
  place ← key (codes "place") text
  play ← key (codes "play") number
  _ ← others no_other
  o ← rule (required path outcome)
  rule (Ok (record { attempt = attempt; host = host; item = item; place = place; play = play; outcome = o }))) path

-- the outcome of a program that ended well and wrote nothing
abbrev pub success : Form
success = Ran (pos 0) [] []

unfoldable pub table : List ℕ → json.Data → Reading Table TableFault
table path = object (record {}) (do
  default ← key (codes "default") outcome
  rows ← key (codes "rows") (each_of row)
  _ ← others no_other
  rs ← rule (required path rows)
  rule (Ok (record { default = unwrap_or default success; rows = rs }))) path

-- the fault of a table for that of a reading
abbrev pub of_reading : Reading Table TableFault → Result Table TableFault
of_reading (Ok t) = Ok t
of_reading (Err (WrongShape path)) = Err (table_fault.WrongShape path)
of_reading (Err (Own f)) = Err f

-- the table that a JSON value is, or its first fault; where there is no value, the bytes are not JSON
abbrev pub of_json : Option json.Data → Result Table TableFault
of_json None = Err table_fault.NotJson
of_json (Some d) = of_reading (table [] d)

-- the table that the bytes spell, or the first fault in them
unfoldable pub table_of : List ℕ → Result Table TableFault
table_of bytes = of_json (json_in bytes)
