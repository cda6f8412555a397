-- The arguments of `set_fact`: an object as the names of facts and their values; and of `setup`: an object without keys.
-- See Ansible's documentation of `ansible.builtin.set_fact` and `ansible.builtin.setup`.
use Rattle.std.specs.Prelude.{ℕ, List, [], Ok, codes, if◌then◌else◌}
use Rattle.std.specs.Str.{bytes_eq}
use Rattle.serde_json.specs.Data as json
use Rattle.pb_value.specs.Datum.{put}
use Rattle.pb_value.specs.Reading.{map_ok}
use Rattle.pb_value.specs.Words.{is_name}
use Rattle.pb_reading.specs.Fields.{◌>>=◌, others, object, rule}
use Rattle.pb_reading.specs.Reading.{Reading, wrong}
use Rattle.pb_play_reading.specs.Arguments.{no_other, arguments}
use Rattle.pb_written.specs.Faults.{refused_key}
use Rattle.pb_written.specs.Values.{template_value}
use Rattle.pb_play_reading.specs.declared.facts.Facts.{Facts}
use Rattle.pb_written.specs.declared.fault.LoadFault.{LoadFault}
use Rattle.pb_play.specs.declared.modules.Module.{Module}
use Rattle.pb_play.specs.declared.modules.Module.TheVariants as called

-- one fact more: its name is that of a variable, and the texts of its value are templates; facts aren't kept beyond the run
abbrev pub one_more_fact : Facts → List ℕ → List ℕ → json.Data → Reading Facts LoadFault
one_more_fact told path k d =
    if bytes_eq k (codes "cacheable") then refused_key path k
    else (if is_name k then map_ok (λ v. record { facts = put k v told.facts }) (template_value path d) else wrong path)

-- `set_fact`; it may set no fact at all
abbrev pub set_fact : List ℕ → json.Data → Reading Module LoadFault
set_fact = object (record { facts = [] }) do
  told ← others one_more_fact
  rule (Ok (called.SetFact told.facts))

-- `setup`; any key that it is given is refused
abbrev pub setup : List ℕ → json.Data → Reading Module LoadFault
setup = arguments do
  _ ← no_other
  rule (Ok called.Setup)
