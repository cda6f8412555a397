-- The arguments of a module: an object whose keys are all named.
use Rattle.std.specs.Prelude.{ℕ, List, Option}
use Rattle.serde_json.specs.Data as json
use Rattle.pb_reading.specs.Fields.{Telling, Part, field, others, object}
use Rattle.pb_reading.specs.Reading.{Reading}
use Rattle.pb_written.specs.Faults.{refused_key}
use Rattle.pb_written.specs.declared.fault.LoadFault.{LoadFault}
use Rattle.pb_play_reading.specs.declared.other_keys.NoArguments.{NoArguments}

-- no other key is read
abbrev pub refuses : {S : Type 0} → Telling S LoadFault
refuses told path k d = refused_key path k

-- the argument k, if it is given
abbrev pub argument : {A : Type 0} → List ℕ → (List ℕ → json.Data → Reading A LoadFault) → Part NoArguments LoadFault (Option A)
argument = field refuses

-- whatever key is left over behind the arguments is refused
abbrev pub no_other : Part NoArguments LoadFault NoArguments
no_other = others refuses

-- a module's arguments at a path, read by these parts; what is no object has the wrong shape
abbrev pub arguments : {A : Type 0} → Part NoArguments LoadFault A → List ℕ → json.Data → Reading A LoadFault
arguments = object (record {})
