-- Names, each once, in the order of their first mention or in byte order.
use Rattle.std.specs.Prelude.{ℕ, List, [], ◌∷◌, map, filter, not, String, string_bytes}
use Rattle.std.specs.declared.alloc.Global.{Global}
use Rattle.std.specs.Str.{bytes_eq}
use Rattle.std.specs.BTreeSet.{insert_key}
use Rattle.std.specs.Cmp.Lexicographic.{slice_cmp}
use Rattle.std.specs.Ordering.{nat_cmp}
pub use Rattle.pb_names.specs.Names.{with_name}

abbrev pub texts : List (String Global) → List (List ℕ)
texts names = map string_bytes names

-- the first mention of each name: a name, and then the first mentions of the others that follow
abbrev pub once : List (List ℕ) → List (List ℕ)
once [] = []
once (name ∷ names) = name ∷ filter (λ other. not (bytes_eq name other)) (once names)

-- each of these names in turn
abbrev pub with_names : List (List ℕ) → List (List ℕ) → List (List ℕ)
with_names [] known = known
with_names (name ∷ names) known = with_names names (with_name name known)

-- a name at its place among names in byte order; one that is there stays alone
abbrev pub in_place : List ℕ → List (List ℕ) → List (List ℕ)
in_place name names = insert_key (slice_cmp nat_cmp) names name

-- each of these names in turn at its place among those in byte order
abbrev pub all_in_place : List (List ℕ) → List (List ℕ) → List (List ℕ)
all_in_place [] known = known
all_in_place (name ∷ names) known = all_in_place names (in_place name known)

-- the names, each once, in byte order
abbrev pub in_byte_order : List (List ℕ) → List (List ℕ)
in_byte_order names = all_in_place names []
