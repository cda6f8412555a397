-- How many hosts may run a task at once. See Ansible's documentation, "Controlling playbook execution: strategies and more", "Restricting execution with throttle".
use Rattle.std.specs.Prelude.{ℕ, ℤ, pos, negsuc, List, min, Option, Some, None, option_and_then}
use Rattle.serde_json.specs.Data as json
use Rattle.serde_json.specs.Find.{as_i64}
use Rattle.pb_reading.specs.Reading.{Reading, wrong, required}
use Rattle.pb_written.specs.declared.fault.LoadFault.{LoadFault}

-- never are there more hosts than 32 bits count: a larger number lets as many run as the largest of these
abbrev pub limit_of : ℤ → Option ℕ
limit_of (pos n) = Some (min n 4294967295)
limit_of (negsuc n) = None

-- an integer that isn't negative; 0 is any number of hosts
abbrev pub throttle : List ℕ → json.Data → Reading ℕ LoadFault
throttle path (json.number n) = required path (option_and_then limit_of (as_i64 n))
throttle path d = wrong path
