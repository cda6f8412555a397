-- How many of a batch's hosts in a hundred may fail. See Ansible's documentation, "Error handling in playbooks", Setting a maximum failure percentage.
use Rattle.std.specs.Prelude.{ℕ, ℤ, pos, negsuc, List, nat_lt, Option, Some, None, option_and_then, if◌then◌else◌}
use Rattle.serde_json.specs.Data as json
use Rattle.serde_json.specs.Find.{as_i64}
use Rattle.pb_reading.specs.Reading.{Reading, wrong, required}
use Rattle.pb_written.specs.declared.fault.LoadFault.{LoadFault}

-- of a hundred hosts there are at most a hundred, and never fewer than none
abbrev pub percentage_of : ℤ → Option ℕ
percentage_of (pos n) = if nat_lt 100 n then None else Some n
percentage_of (negsuc n) = None

-- an integer from 0 to 100
abbrev pub percentage : List ℕ → json.Data → Reading ℕ LoadFault
percentage path (json.number n) = required path (option_and_then percentage_of (as_i64 n))
percentage path d = wrong path
