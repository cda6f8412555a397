-- The modules that a task may name, each with or without the prefix `ansible.builtin.`, and their arguments.
-- See Ansible's documentation, "Index of all Modules", ansible.builtin.
use Rattle.std.specs.Prelude.{ℕ, Bool, ◌||◌, ◌++◌, List, Option, Some, None, codes, if◌then◌else◌}
use Rattle.std.specs.Str.{bytes_eq}
use Rattle.serde_json.specs.Data as json
use Rattle.pb_value.specs.Reading.{map_ok}
use Rattle.pb_reading.specs.Reading.{Reading}
use Rattle.pb_play_reading.specs.Assert.{assert}
use Rattle.pb_play_reading.specs.Commands.{command, shell}
use Rattle.pb_play_reading.specs.Debug.{debug}
use Rattle.pb_play_reading.specs.Facts.{set_fact, setup}
use Rattle.pb_play_reading.specs.Messages.{message}
use Rattle.pb_written.specs.declared.fault.LoadFault.{LoadFault}
use Rattle.pb_play.specs.declared.modules.Module.{Module}
use Rattle.pb_play.specs.declared.modules.Module.TheVariants.{Command, Fail, Shell}
use Rattle.pb_play_reading.specs.declared.modules.ModuleKey.{ModuleKey}
use Rattle.pb_play_reading.specs.declared.modules.ModuleKey.TheVariants as key

-- a key names the module of this name
abbrev pub names : List ℕ → List ℕ → Bool
names k name = bytes_eq k name || bytes_eq k (codes "ansible.builtin." ++ name)

-- the module that a key names
abbrev pub module_key : List ℕ → Option ModuleKey
module_key k =
    if names k (codes "assert") then Some key.Assert
    else (if names k (codes "command") then Some key.Command
    else (if names k (codes "debug") then Some key.Debug
    else (if names k (codes "fail") then Some key.Fail
    else (if names k (codes "set_fact") then Some key.SetFact
    else (if names k (codes "setup") then Some key.Setup
    else (if names k (codes "shell") then Some key.Shell else None))))))

-- what `fail` shows where nothing is said
abbrev pub failed_as_requested : List ℕ
failed_as_requested = codes "Failed as requested from task"

-- the module with the arguments that stand at its key
abbrev pub module_of : ModuleKey → List ℕ → json.Data → Reading Module LoadFault
module_of key.Assert path d = assert path d
module_of key.Command path d = map_ok Command (command path d)
module_of key.Debug path d = debug path d
module_of key.Fail path d = map_ok Fail (message failed_as_requested path d)
module_of key.SetFact path d = set_fact path d
module_of key.Setup path d = setup path d
module_of key.Shell path d = map_ok Shell (shell path d)
