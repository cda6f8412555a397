-- The extra variables that the bytes of a file spell, or the first fault in them (Ansible's documentation, "Using variables", "Defining
-- variables at runtime"; the file is JSON, RFC 8259). The keys of the object are looked at in byte order.
use Rattle.std.specs.Prelude.{ℕ, List, [], Result, Ok, Err, Option, Some, None, if◌then◌else◌}
use Rattle.serde_json.specs.Data as json
use Rattle.pb_value.specs.Bytes.{json_in}
use Rattle.pb_reading.specs.Reading.{Reading, Own, wrong, each_named_of}
use Rattle.pb_reading.specs.Reading.{WrongShape as Wrong}
use Rattle.pb_value.specs.Datum.{Datum}
use Rattle.pb_value.specs.FromJson.{value_of}
use Rattle.pb_value.specs.Words.{is_name}
use Rattle.pb_value.specs.declared.fault.ValFault.{ValFault}
use Rattle.pb_variables.specs.declared.fault.ExtraFault.{ExtraFault}
use Rattle.pb_variables.specs.declared.fault.ExtraFault.TheVariants.{NotJson, WrongShape}

-- a value that is refused is a wrong shape
abbrev pub found_value : List ℕ → Result Datum ValFault → Reading Datum ExtraFault
found_value path (Ok v) = Ok v
found_value path (Err e) = wrong path

-- a variable of the file, where its key is its path: that has to be a name; the value's texts stay as they are
abbrev pub variable : List ℕ → json.Data → Reading Datum ExtraFault
variable path d = if is_name path then found_value path (value_of d) else wrong path

-- the fault of the file for that of a reading
abbrev pub of_reading : Reading (List (List ℕ × Datum)) ExtraFault → Result (List (List ℕ × Datum)) ExtraFault
of_reading (Ok extra) = Ok extra
of_reading (Err (Wrong path)) = Err (WrongShape path)
of_reading (Err (Own e)) = Err e

-- the file is an object
abbrev pub variables_in : json.Data → Result (List (List ℕ × Datum)) ExtraFault
variables_in d = of_reading (each_named_of variable [] d)

-- the extra variables that a file spells, if it is JSON, or the first fault in it
abbrev pub of_json : Option json.Data → Result (List (List ℕ × Datum)) ExtraFault
of_json None = Err NotJson
of_json (Some d) = variables_in d

-- the extra variables that the bytes spell, or the first fault in them
unfoldable pub extra_of : List ℕ → Result (List (List ℕ × Datum)) ExtraFault
extra_of bytes = of_json (json_in bytes)
