-- Blocks: nodes with keys that hold for all of them. See Ansible's documentation, "Blocks" and "Playbook Keywords", Block.
use Rattle.std.specs.Prelude.{ℕ, Bool, List, [], Ok, Option, codes}
use Rattle.serde_json.specs.Data as json
use Rattle.pb_expr_syntax.specs.Tree.{Tree}
use Rattle.pb_value.specs.Datum.{Datum}
use Rattle.pb_reading.specs.Fields.{◌>>=◌, Part, others, object, rule}
use Rattle.pb_reading.specs.Reading.{Reading}
use Rattle.pb_reading.specs.Simple.{text}
use Rattle.pb_written.specs.Simple.{switched}
use Rattle.pb_written.specs.Conditions.{conditions}
use Rattle.pb_play_reading.specs.Couplings.{coupled, delegation, runs}
use Rattle.pb_play_reading.specs.NoEffect.{has_no_effect, key, key_or}
use Rattle.pb_play.specs.Nodes.{Written, Nothing, Block}
use Rattle.pb_play_reading.specs.Variables.{variables}
use Rattle.pb_play_reading.specs.declared.blocks.Early.{Early}
use Rattle.pb_play_reading.specs.declared.blocks.MiddleOfBlock.{MiddleOfBlock}
use Rattle.pb_play_reading.specs.declared.couplings.Runs.{Runs}
use Rattle.pb_play.specs.declared.node.BlockKeys.{BlockKeys}
use Rattle.pb_written.specs.declared.fault.LoadFault.{LoadFault}
use Rattle.pb_play_reading.specs.declared.other_keys.WithoutEffect.{WithoutEffect}

-- how a list of nodes is read
abbrev pub Lists : Type 0
Lists = List ℕ → json.Data → Reading Written LoadFault

-- the parts of a block whose keys come first
abbrev pub early : Lists → Part WithoutEffect LoadFault Early
early nodes = do
  always ← key_or (codes "always") nodes Nothing
  any_errors_fatal ← key (codes "any_errors_fatal") switched
  body ← key_or (codes "block") nodes Nothing
  rule (Ok (record { always = always; any_errors_fatal = any_errors_fatal; body = body }))

-- which host runs its tasks, and whether its failures are ignored; its name is a text, and isn't kept
abbrev pub middle_of_block : Part WithoutEffect LoadFault MiddleOfBlock
middle_of_block = do
  delegation ← delegation has_no_effect
  ignore_errors ← key (codes "ignore_errors") switched
  _ ← key (codes "name") text
  rule (Ok (record { delegation = delegation; ignore_errors = ignore_errors }))

-- the keys of a block that hold for all that stands in it
abbrev pub keys_in_block : MiddleOfBlock → Option Bool → Runs → List (List ℕ × Datum) → List Tree → BlockKeys
keys_in_block middle any_errors_fatal runs vars conditions =
    record {
      conditions = conditions;
      vars = vars;
      ignore_errors = middle.ignore_errors;
      throttle = runs.throttle;
      couplings = coupled any_errors_fatal middle.delegation runs.run_once;
    }

-- the block, whose keys up to `rescue` are these
abbrev pub rest_of_block : Early → MiddleOfBlock → Written → Part WithoutEffect LoadFault Written
rest_of_block early middle rescue = do
  runs ← runs has_no_effect
  vars ← key_or (codes "vars") variables []
  conditions ← key_or (codes "when") conditions []
  _ ← others has_no_effect
  rule (Ok (Block (keys_in_block middle early.any_errors_fatal runs vars conditions) early.body rescue early.always Nothing))

-- the block, whose keys in front of `rescue` are these
abbrev pub late : Lists → Early → MiddleOfBlock → Part WithoutEffect LoadFault Written
late nodes early middle = do
  rescue ← key_or (codes "rescue") nodes Nothing
  rest_of_block early middle rescue

-- a block, whose lists of nodes are read so; one without a key has no nodes there, no variables and no conditions
abbrev pub block : Lists → List ℕ → json.Data → Reading Written LoadFault
block nodes = object (record {}) do
  early ← early nodes
  middle ← middle_of_block
  late nodes early middle
