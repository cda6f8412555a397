-- Values that stand alone at a key, as they are written: with templates in their texts, or with texts of any kind.
use Rattle.std.specs.Prelude.{ℕ, List, Result, Ok, Err, if◌then◌else◌}
use Rattle.serde_json.specs.Data as json
use Rattle.pb_value.specs.Datum.{Datum}
use Rattle.pb_value.specs.FromJson.{value_of}
use Rattle.pb_value.specs.declared.fault.ValFault.{ValFault}
use Rattle.pb_value.specs.Reading.{and_then}
use Rattle.pb_reading.specs.Reading.{Reading, wrong}
use Rattle.pb_written.specs.Faults.{no_expression}
use Rattle.pb_written.specs.Templates.{is_template, are_templates}
use Rattle.pb_written.specs.declared.fault.LoadFault.{LoadFault}

-- a value, as it was read
abbrev found : List ℕ → Result Datum ValFault → Reading Datum LoadFault
found path (Ok v) = Ok v
found path (Err e) = wrong path

-- a value, whatever its texts are
abbrev pub plain_value : List ℕ → json.Data → Reading Datum LoadFault
plain_value path d = found path (value_of d)

-- a value whose texts are templates, as it is written: it is read whole, and then its texts are looked at
abbrev pub template_value : List ℕ → json.Data → Reading Datum LoadFault
template_value path d = and_then (plain_value path d) (λ v. if are_templates d then Ok v else no_expression path)

-- a text that is a template, as it is written
abbrev pub template_text : List ℕ → json.Data → Reading (List ℕ) LoadFault
template_text path (json.string s) = if is_template s then Ok s else no_expression path
template_text path d = wrong path
