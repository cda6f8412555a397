-- What a function of this crate answers: what its definition gives, unless memory ran out.
use Rattle.std.specs.Prelude.{◌≡◌, Result, Ok, Err}
use Rattle.pb_roles.specs.declared.fault.RoleFault.{RoleFault}
use Rattle.pb_roles.specs.declared.fault.RoleFault.TheVariants.{Unknown, Cycle, Load, Memory, TooLarge}

-- a function came to this fault, and its definition gives the same one; where memory ran out, nothing is said of what it gives
abbrev pub Faults : {A : Type 0} → RoleFault → Result A RoleFault → Type 0
Faults (Unknown name) r = r ≡ Err (Unknown name)
Faults Cycle r = r ≡ Err Cycle
Faults (Load path fault) r = r ≡ Err (Load path fault)
Faults Memory r = Unit {0}
Faults TooLarge r = r ≡ Err TooLarge

-- a function came to the first of these, and its definition gives the second: the same value, or a fault as above
abbrev pub Gives : {A : Type 0} → Result A RoleFault → Result A RoleFault → Type 0
Gives (Ok x) r = r ≡ Ok x
Gives (Err e) r = Faults e r
