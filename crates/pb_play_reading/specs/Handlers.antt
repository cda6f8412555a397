-- Handlers: a task's keys, and the topics at `listen`. One is neither a block nor a task that steers the run: their keys aren't read.
-- See Ansible's documentation, "Handlers: running operations on change".
use Rattle.std.specs.Prelude.{ℕ, List, [], Ok, codes}
use Rattle.serde_json.specs.Data as json
use Rattle.pb_reading.specs.Fields.{◌>>=◌, Part, object, rule}
use Rattle.pb_reading.specs.Reading.{Reading}
use Rattle.pb_written.specs.Texts.{texts}
use Rattle.pb_written.specs.declared.fault.LoadFault.{LoadFault}
use Rattle.pb_play_reading.specs.Tasks.{key_or, head, looping, rest_of_task}
use Rattle.pb_play_reading.specs.declared.handlers.Handler.{Handler}
use Rattle.pb_play_reading.specs.declared.task.Modules.{Modules}
use Rattle.pb_play_reading.specs.declared.task.Modules.TheVariants.{Nothing}
use Rattle.pb_play_reading.specs.declared.task.Head.{Head}

-- a handler behind its keys up to `ignore_errors`; one that doesn't say so listens to no topic
abbrev pub rest_of_handler : List ℕ → Head → Part Modules LoadFault Handler
rest_of_handler path head = do
  listens ← key_or (codes "listen") texts []
  looped ← looping
  task ← rest_of_task path head looped
  rule (Ok (record { task = task; listens = listens }))

-- a handler
unfoldable pub handler : List ℕ → json.Data → Reading Handler LoadFault
handler path = object Nothing (do
  head ← head
  rest_of_handler path head) path
