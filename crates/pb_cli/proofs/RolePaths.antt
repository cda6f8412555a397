-- Paths of roles' files, and the room for them.
use Rattle.std.proofs.Common.{◌≡◌, ◌∙◌, ◌≤◌, ◌<◌, ◌+◌, ◌-◌, ℕ, zero, suc, false, List, [], ◌∷◌, ◌++◌, length, map, refl, sym, ap, subst, string_bytes, arith, take, add-one}
use Rattle.std.specs.Prelude.{IsSorted, string_cmp, String, slice_index_or, IsPermutation}
use Rattle.std.specs.Ordering.{is_lt}
use Rattle.std.proofs.lemmas.List.Elements.{All-append}
use Rattle.std.proofs.lemmas.List.Sorted.{All-permutation, IsPermutation-map}
use Rattle.pb_value.specs.Limits.{max_bytes}
use Rattle.pb_roles.specs.declared.files.RoleFile.{RoleFile}
use Rattle.pb_cli.specs.RoleFiles.{IsRolePath, AreRolePaths, FitIn, InOrder, AreRoleFiles}

-- a role's path behind others
all_one : (path : List ℕ) → IsRolePath path → AreRolePaths (path ∷ [])
unfolding AreRolePaths
all_one path is zero d below = is
all_one path is (suc k) d below = absurd (omega (arith, below))

texts_push : {Z : Type 0} (xs : List (String Z)) (x : String Z) → map string_bytes (xs ++ x ∷ []) ≡ map string_bytes xs ++ string_bytes x ∷ []
texts_push [] x = refl
texts_push (y ∷ xs) x = ap (λ rest. string_bytes y ∷ rest) (texts_push xs x)

pub push_path : {Z : Type 0} (xs : List (String Z)) (x : String Z) → AreRolePaths (map string_bytes xs) → IsRolePath (string_bytes x) → AreRolePaths (map string_bytes (xs ++ x ∷ []))
unfolding AreRolePaths
push_path xs x are is = rw (texts_push xs x) (All-append IsRolePath (map string_bytes xs) (string_bytes x ∷ []) are (all_one (string_bytes x) is))

pub no_paths : AreRolePaths []
unfolding AreRolePaths
no_paths k d below = absurd (omega (arith, below))

pub moved_paths : {Z : Type 0} (xs ys : List (String Z)) → IsPermutation xs ys → AreRolePaths (map string_bytes xs) → AreRolePaths (map string_bytes ys)
unfolding AreRolePaths
moved_paths xs ys moved are = All-permutation IsRolePath (map string_bytes xs) (map string_bytes ys) (IsPermutation-map string_bytes xs ys moved) are

-- what a sort says, from each path to the next
pub in_order : {Z : Type 0} (xs : List (String Z)) → IsSorted string_cmp xs → InOrder (map string_bytes xs)
in_order [] sorted = tt
in_order (x ∷ []) sorted = tt
in_order (x ∷ y ∷ xs) sorted = (
  sorted 0 x (omega arith) (omega arith),
  in_order (y ∷ xs) (λ k d low high.
      let e : suc k + 1 ≡ suc (k + 1) = omega arith in
      subst (λ n. is_lt (string_cmp (slice_index_or (x ∷ y ∷ xs) n d) (slice_index_or (y ∷ xs) k d)) ≡ false) e (sorted (suc k) d (omega arith) (omega (arith, high)))),
)

-- the room behind files
abbrev pub room_left : ℕ → List RoleFile → ℕ
room_left room [] = room
room_left room (file ∷ files) = room_left (room - length file.path - length file.bytes) files

room_left_push : (room : ℕ) (files : List RoleFile) (file : RoleFile) → room_left room (files ++ file ∷ []) ≡ room_left room files - length file.path - length file.bytes
room_left_push room [] file = refl
room_left_push room (first ∷ files) file = room_left_push (room - length first.path - length first.bytes) files file

fit_push : (room : ℕ) (files : List RoleFile) (file : RoleFile) → FitIn room files → length file.bytes ≤ room_left room files - length file.path + 1 → FitIn room (files ++ file ∷ [])
fit_push room [] file fit bound = (bound, tt)
fit_push room (first ∷ files) file fit bound = (fit.0, fit_push (room - length first.path - length first.bytes) files file fit.1 bound)

paths_push : (files : List RoleFile) (file : RoleFile) → map (λ (f : RoleFile). f.path) (files ++ file ∷ []) ≡ map (λ (f : RoleFile). f.path) files ++ file.path ∷ []
paths_push [] file = refl
paths_push (first ∷ files) file = ap (λ rest. first.path ∷ rest) (paths_push files file)

one_more : {X Y : Type 0} (f : X → Y) (xs : List X) (i : ℕ) (x : X) → i < length xs → x ≡ slice_index_or xs i x → map f (take (suc i) xs) ≡ map f (take i xs) ++ f x ∷ []
one_more f [] i x below is = absurd (omega (arith, below))
one_more f (y ∷ xs) zero x below is = ap (λ z. f z ∷ []) (sym is)
one_more f (y ∷ xs) (suc i) x below is = ap (λ rest. f y ∷ rest) (one_more f xs i x (omega (arith, below)) is)

paths_on : {Z : Type 0} (paths : List (String Z)) (i : ℕ) (x : String Z) (before : List RoleFile) (file : RoleFile) → i < length paths → x ≡ slice_index_or paths i x → file.path ≡ string_bytes x
    → map (λ (f : RoleFile). f.path) before ≡ map string_bytes (take i paths) → map (λ (f : RoleFile). f.path) (before ++ file ∷ []) ≡ map string_bytes (take (suc i) paths)
paths_on paths i x before file below is path same = rw (paths_push before file, one_more string_bytes paths i x below is, same, path) refl

-- one more file is read
pub read_on : {Z : Type 0} (room : ℕ) (paths : List (String Z)) (i : ℕ) (x : String Z) (path : List ℕ) (before after : List RoleFile) (file : RoleFile) (left next m n : ℕ)
    → i < length paths → x ≡ slice_index_or paths i x → path ≡ string_bytes x → after ≡ before ++ file ∷ [] → file.path ≡ path → length file.bytes ≤ left - length path + 1
    → m ≡ length file.path → n ≡ length file.bytes → next ≡ left - m - n
    → (map (λ (f : RoleFile). f.path) before ≡ map string_bytes (take i paths)) × FitIn room before × (left ≡ room_left room before) × (left ≤ max_bytes)
    → (map (λ (f : RoleFile). f.path) after ≡ map string_bytes (take (i + 1) paths)) × FitIn room after × (next ≡ room_left room after) × (next ≤ max_bytes)
read_on room paths i x path before after file left next m n below is text more named bound size length_of step inv =
    let paths_same = paths_on paths i x before file below is (named ∙ text) inv.0 in
    let bound_left = subst (λ l. length file.bytes ≤ l - length path + 1) inv.2 bound in
    let bound_named = subst (λ p. length file.bytes ≤ room_left room before - length p + 1) (sym named) bound_left in
    let stepped : next ≡ room_left room before - length file.path - length file.bytes = rw (step, inv.2, size, length_of) refl in
    rw (more, add-one) (
      paths_same,
      fit_push room before file inv.1 bound_named,
      stepped ∙ sym (room_left_push room before file),
      omega (arith, step, inv.3),
    )

pub role_files : {Z : Type 0} (room : ℕ) (files : List RoleFile) (paths : List (String Z)) → AreRolePaths (map string_bytes paths) → InOrder (map string_bytes paths)
    → map (λ (f : RoleFile). f.path) files ≡ map string_bytes paths → FitIn room files → AreRoleFiles room files
role_files room files paths are order same fit = record { paths = subst AreRolePaths (sym same) are; order = subst InOrder (sym same) order; fit = fit }
