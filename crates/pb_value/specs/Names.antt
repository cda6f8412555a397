-- Names that dicts share, and which of them a dict has.
use Rattle.std.specs.Prelude.{ℕ, zero, suc, ◌/◌, ◌%◌, ◌==◌, cond, List, [], ◌∷◌, Option, Some, None, String, string_bytes, option_map, slice_get, length, nat_le, if◌then◌else◌}
use Rattle.std.specs.Map.{keys_of}
use Rattle.std.specs.declared.alloc.Global.{Global}

-- names as their bytes
abbrev pub spelled : List (String Global) → List (List ℕ)
spelled [] = []
spelled (n ∷ ns) = string_bytes n ∷ spelled ns

-- the names of entries, if these are no more than 64
abbrev pub names_of : {X : Type 0} → List (List ℕ × X) → Option (List (List ℕ))
names_of ms = if nat_le (length ms) 64 then Some (keys_of ms) else None

-- names as entries, to look for one among them
abbrev pub paired : List (String Global) → List (String Global × ℕ)
paired [] = []
paired (n ∷ ns) = (n, 0) ∷ paired ns

-- a name with the first value, and what is made of those behind it
abbrev pub with_first : {K X : Type 0} → K → List X → (List X → List (K × X)) → List (K × X)
with_first n [] rest = []
with_first n (v ∷ vs) rest = (n, v) ∷ rest vs

-- Names with their values. Each bit of `gone`, from the lowest on, says whether that name has none.
abbrev pub kept : {K X : Type 0} → ℕ → List K → List X → List (K × X)
kept gone [] vs = []
kept gone (n ∷ ns) vs = cond (gone % 2 == 1) (kept (gone / 2) ns vs) (with_first n vs (λ rest. kept (gone / 2) ns rest))

-- the index of a name's value
abbrev pub spot : ℕ → ℕ → Option ℕ
spot gone zero = cond (gone % 2 == 1) None (Some 0)
spot gone (suc at) = cond (gone % 2 == 1) (spot (gone / 2) at) (option_map (λ i. suc i) (spot (gone / 2) at))

-- the value at an index
abbrev pub at_spot : {X : Type 0} → Option ℕ → List X → Option X
at_spot None vs = None
at_spot (Some i) vs = slice_get vs i
