-- The values that stand alone at a key of a playbook. See Ansible's documentation, "Playbook Keywords" and "Creating valid variable names".
use Rattle.std.specs.Prelude.{ℕ, Bool, List, Ok, if◌then◌else◌}
use Rattle.serde_json.specs.Data as json
use Rattle.pb_value.specs.Words.{is_name, switch_of}
use Rattle.pb_reading.specs.Reading.{Reading, wrong, required}

-- a switch: whether it is on
abbrev pub switched : {F : Type 0} → List ℕ → json.Data → Reading Bool F
switched path d = required path (switch_of d)

-- a text that may name a variable
abbrev pub variable_name : {F : Type 0} → List ℕ → json.Data → Reading (List ℕ) F
variable_name path (json.string s) = if is_name s then Ok s else wrong path
variable_name path d = wrong path
