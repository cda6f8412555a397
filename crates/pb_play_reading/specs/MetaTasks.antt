-- Tasks that steer the run: they are known by the key `meta`, with the prefix or without. See Ansible's documentation of `ansible.builtin.meta`.
use Rattle.std.specs.Prelude.{ℕ, List, [], Ok, Err, Option, Some, None, codes, unwrap_or, if◌then◌else◌}
use Rattle.std.specs.Str.{bytes_eq}
use Rattle.serde_json.specs.Data as json
use Rattle.pb_expr_syntax.specs.Tree.{Tree}
use Rattle.pb_reading.specs.Fields.{◌>>=◌, Part, others, object, rule}
use Rattle.pb_reading.specs.Reading.{Reading, Own}
use Rattle.pb_reading.specs.Simple.{text}
use Rattle.pb_written.specs.Conditions.{conditions}
use Rattle.pb_written.specs.Faults.{refused_key, refused_below}
use Rattle.pb_play_reading.specs.NoEffect.{has_no_effect, key}
use Rattle.pb_play.specs.Nodes.{Written, Nothing, Task, Flush}
use Rattle.pb_play.specs.Tasks.{plain_task}
use Rattle.pb_written.specs.declared.fault.LoadFault.{LoadFault}
use Rattle.pb_written.specs.declared.fault.LoadFault.TheVariants.{NoModule}
use Rattle.pb_play_reading.specs.declared.meta.Said.{Said}
use Rattle.pb_play_reading.specs.declared.meta.Said.TheVariants.{Does, Flushes}
use Rattle.pb_play.specs.declared.modules.Meta.{Meta}
use Rattle.pb_play.specs.declared.modules.Meta.TheVariants.{Noop, EndHost}
use Rattle.pb_play.specs.declared.modules.Module.TheVariants as called
use Rattle.pb_play_reading.specs.declared.other_keys.WithoutEffect.{WithoutEffect}
use Rattle.pb_play.specs.declared.task.Task as declared

-- what a meta task may say; any other word, and what is no text, isn't read
abbrev pub said_by : List ℕ → List ℕ → Reading Said LoadFault
said_by path s =
    if bytes_eq s (codes "end_host") then Ok (Does EndHost)
    else (if bytes_eq s (codes "flush_handlers") then Ok Flushes
    else (if bytes_eq s (codes "noop") then Ok (Does Noop) else refused_key path (codes "meta")))

abbrev pub said : List ℕ → json.Data → Reading Said LoadFault
said path (json.string s) = said_by path s
said path d = refused_key path (codes "meta")

-- the key stands once: beside the one with the prefix, the other is a key that isn't read
abbrev pub one_of : List ℕ → Option Said → Option Said → Reading Said LoadFault
one_of path (Some s) None = Ok s
one_of path None (Some s) = Ok s
one_of path (Some s) (Some t) = refused_below path (codes "meta")
one_of path None None = Err (Own (NoModule path))

-- what stands at the key, with the prefix or without; where neither stands there is no module
abbrev pub what_is_said : List ℕ → Part WithoutEffect LoadFault Said
what_is_said path = do
  full ← key (codes "ansible.builtin.meta") said
  short ← key (codes "meta") said
  rule (one_of path full short)

-- a task that steers the run; one without a name is named `meta`
abbrev pub meta_task : Meta → Option (List ℕ) → Option (List Tree) → declared.Task
meta_task m name conditions = record (plain_task (unwrap_or name (codes "meta")) [] (called.Meta m)) { conditions = unwrap_or conditions [] }

-- where the handlers run that are pending no condition is asked: whatever stands there is refused by its key
abbrev pub no_conditions : List ℕ → json.Data → Reading Unit LoadFault
no_conditions path d = refused_key path (codes "when")

-- the name of such a node isn't kept
abbrev pub rest_of_flush : Part WithoutEffect LoadFault Written
rest_of_flush = do
  _ ← key (codes "name") text
  _ ← key (codes "when") no_conditions
  _ ← others has_no_effect
  rule (Ok (Flush Nothing))

-- a task that steers the run, by the keys behind its first: it may have a name and conditions
abbrev pub rest_of_meta_task : Meta → Part WithoutEffect LoadFault Written
rest_of_meta_task m = do
  name ← key (codes "name") text
  conditions ← key (codes "when") conditions
  _ ← others has_no_effect
  rule (Ok (Task (meta_task m name conditions) Nothing))

-- what is said at `meta` is known before the keys behind it are read
abbrev pub rest_of_meta : Said → Part WithoutEffect LoadFault Written
rest_of_meta (Does m) = rest_of_meta_task m
rest_of_meta Flushes = rest_of_flush

-- a task that steers the run, or a place where the handlers run that are pending
abbrev pub meta : List ℕ → json.Data → Reading Written LoadFault
meta path = object (record {}) (do
  said ← what_is_said path
  rest_of_meta said) path
