-- The variables of groups, as a file gives them: an object with a value under each name.
use Rattle.std.specs.Prelude.{ℕ, List, [], ◌∷◌, ◌++◌, Result, Ok, Err, if◌then◌else◌}
use Rattle.serde_json.specs.Data as json
use Rattle.pb_value.specs.Datum.{Datum}
use Rattle.pb_value.specs.FromJson.{value_of}
use Rattle.pb_value.specs.Reading.{map_ok}
use Rattle.pb_value.specs.declared.fault.ValFault.{ValFault}
use Rattle.pb_reading.specs.Fields.{others, object}
use Rattle.pb_reading.specs.Reading.{Reading, Own}
use Rattle.pb_inventory.specs.Vars.{is_priority, priority_in, no_vars}
use Rattle.pb_inventory.specs.declared.vars.GroupVars.{GroupVars}
use Rattle.pb_inventory.specs.declared.fault.InvFault.{InvFault}
use Rattle.pb_inventory.specs.declared.fault.InvFault.TheVariants as inv_fault

-- the value of a variable; one that is refused is a fault without a path
abbrev pub variable : Result Datum ValFault → Reading Datum InvFault
variable (Ok v) = Ok v
variable (Err e) = Err (Own inv_fault.Value)

abbrev pub variable_value : List ℕ → json.Data → Reading Datum InvFault
variable_value path d = variable (value_of d)

-- a group's variables; its priority isn't one of them
abbrev pub with_variable : List ℕ → Datum → GroupVars → GroupVars
with_variable name v known = if is_priority name then record known { priority = priority_in v } else record known { vars = known.vars ++ record { name = name; value = v } ∷ [] }

-- a group's variables with the one that stands under this key, at this path
abbrev pub with_value : GroupVars → List ℕ → List ℕ → json.Data → Reading GroupVars InvFault
with_value known path k d = map_ok (λ v. with_variable k v known) (variable_value path d)

-- the variables of a group, and its priority, from the object at this path
abbrev pub group_vars : List ℕ → json.Data → Reading GroupVars InvFault
group_vars = object no_vars (others with_value)
