-- The arguments of `debug`: an object with at most one of `msg`, a message of any kind, and `var`, an expression whose value is shown.
-- See Ansible's documentation of `ansible.builtin.debug`.
use Rattle.std.specs.Prelude.{ℕ, List, Ok, Option, Some, None, codes}
use Rattle.serde_json.specs.Data as json
use Rattle.pb_value.specs.Datum as value
use Rattle.pb_value.specs.Reading.{map_ok}
use Rattle.pb_reading.specs.Fields.{◌>>=◌, rule}
use Rattle.pb_reading.specs.Reading.{Reading, wrong}
use Rattle.pb_play_reading.specs.Arguments.{argument, no_other, arguments}
use Rattle.pb_written.specs.Conditions.{expression_in}
use Rattle.pb_written.specs.Values.{template_value}
use Rattle.pb_play_reading.specs.declared.debug.Spelt.{Spelt}
use Rattle.pb_written.specs.declared.fault.LoadFault.{LoadFault}
use Rattle.pb_play.specs.declared.modules.Module.{Module}
use Rattle.pb_play.specs.declared.modules.Module.TheVariants.{Debug, DebugVar}

-- an expression, with the text that spells it
abbrev pub expression : List ℕ → json.Data → Reading Spelt LoadFault
expression path (json.string s) = map_ok (λ t. record { text = s; expr = t }) (expression_in path s)
expression path d = wrong path

-- what is shown where nothing is said
abbrev pub hello : List ℕ
hello = codes "Hello world!"

-- at most one of the two
abbrev pub shown : List ℕ → Option value.Datum → Option Spelt → Reading Module LoadFault
shown path None None = Ok (Debug (value.text hello))
shown path (Some v) None = Ok (Debug v)
shown path None (Some x) = Ok (DebugVar x.text x.expr)
shown path (Some v) (Some x) = wrong path

-- `debug`: with neither of its arguments it shows the greeting
abbrev pub debug : List ℕ → json.Data → Reading Module LoadFault
debug path = arguments (do
  msg ← argument (codes "msg") template_value
  var ← argument (codes "var") expression
  _ ← no_other
  rule (shown path msg var)) path
