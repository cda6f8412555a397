-- How a reader finds its value or the first fault, whatever it reads and whatever its faults are.
use Rattle.std.specs.Prelude.{ℕ, List, [], ◌∷◌, ◌++◌, Result, Ok, Err}

-- what follows a first part: the fault of the first part comes first
abbrev pub and_then : {A B E : Type 0} → Result A E → (A → Result B E) → Result B E
and_then (Ok x) f = f x
and_then (Err e) f = Err e

-- f of what was read, where it was read
abbrev pub map_ok : {A B E : Type 0} → (A → B) → Result A E → Result B E
map_ok f (Ok x) = Ok (f x)
map_ok f (Err e) = Err e

-- the path of a key under a path: both with `/` between, or the key alone where the path is empty
abbrev pub below : List ℕ → List ℕ → List ℕ
below [] key = key
below (b ∷ path) key = (b ∷ path) ++ 47 ∷ key
