-- What a task is repeated over, and the name under which a member is seen. See Ansible's documentation, "Loops".
use Rattle.std.specs.Prelude.{ℕ, List, Ok, Option, codes, option_map, unwrap_or}
use Rattle.serde_json.specs.Data as json
use Rattle.pb_value.specs.Datum.{Datum}
use Rattle.pb_reading.specs.Fields.{◌>>=◌, rule, value_at}
use Rattle.pb_reading.specs.Reading.{Reading, wrong}
use Rattle.pb_play_reading.specs.Arguments.{refuses, argument, no_other, arguments}
use Rattle.pb_written.specs.Simple.{variable_name}
use Rattle.pb_written.specs.Values.{template_value}
use Rattle.pb_written.specs.declared.fault.LoadFault.{LoadFault}
use Rattle.pb_play.specs.declared.loops.Loop.{Loop}

-- a list, or a text that may give one when the task starts
abbrev pub over : List ℕ → json.Data → Reading Datum LoadFault
over path (json.array ds) = template_value path (json.array ds)
over path (json.string s) = template_value path (json.string s)
over path d = wrong path

-- the name of a loop's variable where the task gives it none
abbrev pub item : List ℕ
item = codes "item"

-- the name of the loop's variable; what is shown of a member has no effect, and isn't read
abbrev pub control : List ℕ → json.Data → Reading (List ℕ) LoadFault
control = arguments do
  _ ← value_at refuses (codes "label")
  variable ← argument (codes "loop_var") variable_name
  _ ← no_other
  rule (Ok (unwrap_or variable item))

-- a task without `loop` has no loop, whatever its variable is named
abbrev pub looped : Option Datum → List ℕ → Option Loop
looped over variable = option_map (λ o. record { over = o; variable = variable }) over
