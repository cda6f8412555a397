-- Why a file isn't read.
use Rattle.std.specs.Prelude.{ℕ, List, [], ◌∷◌, Err, Option, Some, None, codes}
use Rattle.pb_value.specs.Reading.{below}
use Rattle.pb_reading.specs.Reading.{Reading, Fault, WrongShape, Own}
use Rattle.pb_written.specs.declared.fault.Limit.{Limit}
use Rattle.pb_written.specs.declared.fault.Limit.TheVariants.{Blocks, Plays}
use Rattle.pb_written.specs.declared.fault.LoadFault.{LoadFault}
use Rattle.pb_written.specs.declared.fault.LoadFault.TheVariants as load
use Rattle.pb_written.specs.declared.fault.LoadFault.TheVariants.{NotInProfile, BadExpression}

-- the name of a limit in a fault's text
abbrev pub limit_name : Limit → List ℕ
limit_name Blocks = codes "blocks"
limit_name Plays = codes "plays"

-- a key that isn't read, or a value of it, at a path
abbrev pub refused_key : {A : Type 0} → List ℕ → List ℕ → Reading A LoadFault
refused_key path k = Err (Own (NotInProfile k path))

-- a key that isn't read, in the object at a path
abbrev pub refused_below : {A : Type 0} → List ℕ → List ℕ → Reading A LoadFault
refused_below path k = refused_key (below path k) k

-- a text that isn't a template or an expression, at a path
abbrev pub no_expression : {A : Type 0} → List ℕ → Reading A LoadFault
no_expression path = Err (Own (BadExpression path))

-- the fault of a file for that of a reading
abbrev pub as_load_fault : Fault LoadFault → LoadFault
as_load_fault (WrongShape path) = load.WrongShape path
as_load_fault (Own f) = f

-- a place in a file; the whole file, whose path is empty, is none
abbrev pub place_at : List ℕ → Option (List ℕ)
place_at [] = None
place_at (b ∷ bs) = Some (b ∷ bs)

-- where in its file a fault stands; bytes that aren't JSON have no places
abbrev pub place_of : LoadFault → Option (List ℕ)
place_of load.NotJson = None
place_of (load.WrongShape path) = place_at path
place_of (load.NotInProfile k path) = place_at path
place_of (load.NoModule path) = place_at path
place_of (load.TwoModules path) = place_at path
place_of (load.BadExpression path) = place_at path
place_of (load.BadSerial path) = place_at path
place_of (load.BadStrategy path) = place_at path
place_of (load.TooLarge limit path) = place_at path
place_of (load.BadPattern path) = place_at path
place_of load.Memory = None
