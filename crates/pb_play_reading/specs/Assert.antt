-- The arguments of `assert`: an object with `that`, one condition or a list of them, and at most one of `fail_msg` and `msg`, what is said
-- where one of them doesn't hold, and `success_msg`, what is said where all of them hold. A message may be of any kind.
-- See Ansible's documentation of `ansible.builtin.assert`.
use Rattle.std.specs.Prelude.{ℕ, List, Ok, Option, Some, None, codes}
use Rattle.serde_json.specs.Data as json
use Rattle.pb_value.specs.Datum.{Datum}
use Rattle.pb_expr_syntax.specs.Tree.{Tree}
use Rattle.pb_value.specs.Reading.{and_then, map_ok}
use Rattle.pb_reading.specs.Fields.{◌>>=◌, Part, rule}
use Rattle.pb_reading.specs.Reading.{Reading, wrong, required}
use Rattle.pb_play_reading.specs.Arguments.{argument, no_other, arguments}
use Rattle.pb_written.specs.Conditions.{conditions}
use Rattle.pb_play_reading.specs.Messages.{or_said}
use Rattle.pb_written.specs.Values.{template_value}
use Rattle.pb_play_reading.specs.declared.assert.Said.{Said}
use Rattle.pb_written.specs.declared.fault.LoadFault.{LoadFault}
use Rattle.pb_play.specs.declared.modules.Module.{Module}
use Rattle.pb_play.specs.declared.modules.Module.TheVariants as called
use Rattle.pb_play_reading.specs.declared.other_keys.NoArguments.{NoArguments}

-- two names of one argument
abbrev pub at_most_one : List ℕ → Option Datum → Option Datum → Reading (Option Datum) LoadFault
at_most_one path (Some v) (Some w) = wrong path
at_most_one path (Some v) None = Ok (Some v)
at_most_one path None said = Ok said

-- what is said, or these words where nothing is written
abbrev pub asserted : List ℕ → Said → List Tree → Reading Module LoadFault
asserted path said that =
    and_then (at_most_one path said.fail_msg said.msg) (λ fail_msg.
    and_then (or_said fail_msg (codes "Assertion failed")) (λ f.
    map_ok (λ s. called.Assert that f s) (or_said said.success_msg (codes "All assertions passed"))))

-- the messages that are written
abbrev pub said : Part NoArguments LoadFault Said
said = do
  fail_msg ← argument (codes "fail_msg") template_value
  msg ← argument (codes "msg") template_value
  success_msg ← argument (codes "success_msg") template_value
  rule (Ok (record { fail_msg = fail_msg; msg = msg; success_msg = success_msg }))

-- `that` has to be there; of the messages each may be left out
abbrev pub assert : List ℕ → json.Data → Reading Module LoadFault
assert path = arguments (do
  said ← said
  that ← argument (codes "that") conditions
  _ ← no_other
  ts ← rule (required path that)
  rule (asserted path said ts)) path
