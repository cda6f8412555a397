-- The arguments of `command` and `shell`: the text itself, or an object. That of `command` has the text under `cmd` or the words of the
-- command under `argv`, one of the two; that of `shell` has the text under `cmd`.
-- See Ansible's documentation of `ansible.builtin.command` and `ansible.builtin.shell`.
use Rattle.std.specs.Prelude.{ℕ, List, Ok, Option, Some, None, codes}
use Rattle.serde_json.specs.Data as json
use Rattle.pb_value.specs.Datum as value
use Rattle.pb_value.specs.Reading.{and_then, map_ok}
use Rattle.pb_reading.specs.Fields.{◌>>=◌, rule}
use Rattle.pb_reading.specs.Reading.{Reading, wrong, required}
use Rattle.pb_play_reading.specs.Arguments.{argument, no_other, arguments}
use Rattle.pb_written.specs.Values.{template_value, template_text}
use Rattle.pb_play.specs.declared.commands.CommandWords.{CommandWords}
use Rattle.pb_play.specs.declared.commands.CommandWords.TheVariants.{Line, Argv}
use Rattle.pb_written.specs.declared.fault.LoadFault.{LoadFault}

-- the members of a list
abbrev pub listed : List ℕ → value.Datum → Reading (List value.Datum) LoadFault
listed path (value.list ds) = Ok (value.list_of ds)
listed path v = wrong path

-- the words of a command one by one: values of any kind
abbrev pub argv : List ℕ → json.Data → Reading (List value.Datum) LoadFault
argv path (json.array ds) = and_then (template_value path (json.array ds)) (listed path)
argv path d = wrong path

-- one of the two
abbrev pub one_of : List ℕ → Option (List ℕ) → Option (List value.Datum) → Reading CommandWords LoadFault
one_of path (Some s) None = Ok (Line s)
one_of path None (Some ws) = Ok (Argv ws)
one_of path (Some s) (Some ws) = wrong path
one_of path None None = wrong path

-- `command`, by an object with one of `argv` and `cmd`
abbrev pub command_in : List ℕ → json.Data → Reading CommandWords LoadFault
command_in path = arguments (do
  ws ← argument (codes "argv") argv
  s ← argument (codes "cmd") template_text
  _ ← no_other
  rule (one_of path s ws)) path

-- `command`, by an object, or else by its text
abbrev pub command : List ℕ → json.Data → Reading CommandWords LoadFault
command path (json.object ms) = command_in path (json.object ms)
command path d = map_ok Line (template_text path d)

-- `shell`, by an object with `cmd`
abbrev pub shell_in : List ℕ → json.Data → Reading (List ℕ) LoadFault
shell_in path = arguments (do
  s ← argument (codes "cmd") template_text
  _ ← no_other
  rule (required path s)) path

-- `shell`, by an object, or else by its text
abbrev pub shell : List ℕ → json.Data → Reading (List ℕ) LoadFault
shell path (json.object ms) = shell_in path (json.object ms)
shell path d = template_text path d
