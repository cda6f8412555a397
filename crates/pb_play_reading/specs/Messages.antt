-- The arguments of `fail`: an object with at most the key `msg`, whose value may be of any kind.
-- See Ansible's documentation of `ansible.builtin.fail`.
use Rattle.std.specs.Prelude.{ℕ, List, Ok, Option, codes, unwrap_or}
use Rattle.serde_json.specs.Data as json
use Rattle.pb_value.specs.Datum as value
use Rattle.pb_reading.specs.Fields.{◌>>=◌, rule}
use Rattle.pb_reading.specs.Reading.{Reading}
use Rattle.pb_play_reading.specs.Arguments.{argument, no_other, arguments}
use Rattle.pb_written.specs.Values.{template_value}
use Rattle.pb_written.specs.declared.fault.LoadFault.{LoadFault}

-- the message that is written, or this text where none is
abbrev pub or_said : Option value.Datum → List ℕ → Reading value.Datum LoadFault
or_said msg otherwise = Ok (unwrap_or msg (value.text otherwise))

-- the message of a module that has no other argument, or this text where none is written
abbrev pub message : List ℕ → List ℕ → json.Data → Reading value.Datum LoadFault
message otherwise = arguments do
  msg ← argument (codes "msg") template_value
  _ ← no_other
  rule (or_said msg otherwise)
