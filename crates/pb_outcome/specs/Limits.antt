-- How large an outcome may be.
use Rattle.std.specs.Prelude.{ℕ, ℤ, ◌≤◌, ◌||◌, ⊤, List, length, nat_lt, nat_le, Result, Ok, Err, Option, Some, None, if◌then◌else◌}
use Rattle.pb_value.specs.Datum.{Datum}
use Rattle.pb_value.specs.Depth.{depth}
use Rattle.pb_value.specs.Limits.{max_text, max_depth}
use Rattle.pb_outcome.specs.declared.fault.OutcomeFault.{OutcomeFault}
use Rattle.pb_outcome.specs.declared.fault.OutcomeFault.TheVariants.{TooLarge}
use Rattle.pb_outcome.specs.declared.outcome.Form.{Form}
use Rattle.pb_outcome.specs.declared.outcome.Form.TheVariants.{Ran, Module, Unreachable, NotStarted}

-- output, errors and the words about a target have at most 1 MiB each; a value nests at most 64 levels, and texts in it have no limit here
abbrev pub IsWithin : Form → Type 0
IsWithin (Ran rc out err) = (length out ≤ max_text) × (length err ≤ max_text)
IsWithin (Module v) = depth v ≤ max_depth
IsWithin (Unreachable msg) = length msg ≤ max_text
IsWithin (NotStarted cause) = ⊤

-- a text, unless it is too long
abbrev pub short_text : List ℕ → Option (List ℕ)
short_text s = if nat_lt max_text (length s) then None else Some s

-- the outcome of these parts, unless one of them is too large
abbrev pub ran_of : ℤ → List ℕ → List ℕ → Result Form OutcomeFault
ran_of rc out err = if nat_lt max_text (length out) || nat_lt max_text (length err) then Err TooLarge else Ok (Ran rc out err)

abbrev pub module_of : Datum → Result Form OutcomeFault
module_of v = if nat_le (depth v) max_depth then Ok (Module v) else Err TooLarge

abbrev pub unreachable_of : List ℕ → Result Form OutcomeFault
unreachable_of msg = if nat_lt max_text (length msg) then Err TooLarge else Ok (Unreachable msg)
