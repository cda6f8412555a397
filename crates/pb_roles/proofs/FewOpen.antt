-- Roles of different names that have files are never more than there are files.
use Rattle.std.proofs.Common.{◌≡◌, ◌≤◌, ℕ, suc, Bool, true, false, ◌&&◌, ◌||◌, List, [], ◌∷◌, ◌++◌, length, drop, reverse, is_none, codes, Some, refl, sym, ap, subst, ◌∙◌, arith, if◌then◌else◌, nat_eq, le_trans, suc-le-suc}
use Rattle.std.specs.Prelude.{⊤}
use Rattle.std.specs.List.{AllByRecursion, list_any}
use Rattle.std.specs.Str.{bytes_eq}
use Rattle.std.proofs.lemmas.List.{reverse-append, reverse-reverse}
use Rattle.pb_roles.specs.Expansion.{is_open}
use Rattle.pb_roles.specs.Files.{file_at, has_no, has_none, main_path}
use Rattle.pb_roles.specs.declared.files.RoleFile.{RoleFile}
use Rattle.pb_roles.specs.declared.files.RoleFiles.{RoleFiles}
use Rattle.pb_roles.proofs.Tests.{is_itself, none_first, none_second, or_left, or_right, same_name}

-- ---- the name that stands in a path

abbrev past_slash : List ℕ → List ℕ
past_slash [] = []
past_slash (c ∷ cs) = if nat_eq c 47 then cs else past_slash cs

-- a path ends with a folder, and then ten bytes
abbrev name_in : List ℕ → List ℕ
name_in path = reverse (past_slash (drop 10 (reverse path)))

turned : (name kind : List ℕ) → reverse (main_path name kind) ≡ reverse (codes "/main.json") ++ (reverse kind ++ (reverse (codes "/") ++ reverse name))
turned name kind =
    reverse-append (name ++ codes "/" ++ kind) (codes "/main.json")
    ∙ ap (λ (cs : List ℕ). reverse (codes "/main.json") ++ cs)
    (reverse-append (name ++ codes "/") kind ∙ ap (λ (cs : List ℕ). reverse kind ++ cs) (reverse-append name (codes "/")))

named : (name kind : List ℕ)
    → past_slash (drop 10 (reverse (codes "/main.json") ++ (reverse kind ++ (reverse (codes "/") ++ reverse name)))) ≡ reverse name
    → name_in (main_path name kind) ≡ name
named name kind e = ap reverse (ap (λ (cs : List ℕ). past_slash (drop 10 cs)) (turned name kind) ∙ e) ∙ reverse-reverse name

-- ---- files of roles

abbrev owns : RoleFile → List ℕ → Bool
owns file name = bytes_eq (name_in file.path) name

-- a role has a file among these
abbrev HasOne : List RoleFile → List ℕ → Type 0
HasOne files name = list_any (λ (file : RoleFile). owns file name) files ≡ true

first_owns : (path name : List ℕ) (file : RoleFile) (files : List RoleFile) (b : Bool) → name_in path ≡ name → bytes_eq file.path path ≡ b
    → (is_none (file_at path files) ≡ false → HasOne files name) → is_none (if b then Some file else file_at path files) ≡ false → HasOne (file ∷ files) name
first_owns path name file files true e f later g =
    or_left (owns file name) (list_any (λ (it : RoleFile). owns it name) files)
    (subst (λ (n : List ℕ). bytes_eq (name_in file.path) n ≡ true) (ap name_in (same_name file.path path f) ∙ e) (is_itself (name_in file.path)))
first_owns path name file files false e f later g = or_right (owns file name) (list_any (λ (it : RoleFile). owns it name) files) (later g)

file_found : (path name : List ℕ) (files : List RoleFile) → name_in path ≡ name → is_none (file_at path files) ≡ false → HasOne files name
file_found path name [] e f = cc
file_found path name (file ∷ files) e f = first_owns path name file files (bytes_eq file.path path) e refl (λ g. file_found path name files e g) f

either_not : {P : Type 0} (a b : Bool) → (a && b) ≡ false → (a ≡ false → P) → (b ≡ false → P) → P
either_not true b e f g = g e
either_not false b e f g = f refl

has_file : (files : RoleFiles) (name : List ℕ) → has_none files name ≡ false → HasOne files.files name
has_file files name e =
    either_not (has_no (codes "meta") files name) _ e (of (codes "meta") refl) (λ e.
    either_not (has_no (codes "defaults") files name) _ e (of (codes "defaults") refl) (λ e.
    either_not (has_no (codes "vars") files name) _ e (of (codes "vars") refl) (λ e.
    either_not (has_no (codes "tasks") files name) (has_no (codes "handlers") files name) e (of (codes "tasks") refl) (of (codes "handlers") refl))))
  where
    of : (kind : List ℕ)
        → past_slash (drop 10 (reverse (codes "/main.json") ++ (reverse kind ++ (reverse (codes "/") ++ reverse name)))) ≡ reverse name
        → has_no kind files name ≡ false → HasOne files.files name
    of kind f none = file_found (main_path name kind) name files.files (named name kind f) none

-- ---- names that differ

abbrev pub AreDistinct : List (List ℕ) → Type 0
AreDistinct [] = ⊤
AreDistinct (name ∷ names) = (is_open name names ≡ false) × AreDistinct names

abbrev without : RoleFile → List (List ℕ) → List (List ℕ)
without file [] = []
without file (name ∷ names) = if owns file name then without file names else name ∷ without file names

-- a file has one role
none_owned : (file : RoleFile) (name : List ℕ) (names : List (List ℕ)) → owns file name ≡ true → is_open name names ≡ false → without file names ≡ names
none_owned file name [] e f = refl
none_owned file name (m ∷ names) e f =
    other (owns file m) refl (none_owned file name names e (none_second (bytes_eq name m) (is_open name names) f))
  where
    other : (b : Bool) → owns file m ≡ b → without file names ≡ names → (if b then without file names else m ∷ without file names) ≡ m ∷ names
    other true g ih =
        let same : name ≡ m = sym (same_name (name_in file.path) name e) ∙ same_name (name_in file.path) m g in
        let wrong = subst (λ (n : List ℕ). bytes_eq name n ≡ true) same (is_itself name) in
        let right = none_first (bytes_eq name m) (is_open name names) f in
        cc
    other false g ih = ap (λ (ns : List (List ℕ)). m ∷ ns) ih

few_out : (file : RoleFile) (names : List (List ℕ)) → AreDistinct names → length names ≤ suc (length (without file names))
few_out file [] d = omega arith
few_out file (name ∷ names) d = by_owner (owns file name) refl (few_out file names (d.1))
  where
    by_owner : (b : Bool) → owns file name ≡ b → length names ≤ suc (length (without file names))
        → suc (length names) ≤ suc (length (if b then without file names else name ∷ without file names))
    by_owner true e ih = let same = ap length (none_owned file name names e (d.0)) in omega (arith, same)
    by_owner false e ih = omega (arith, ih)

still_new : (file : RoleFile) (name : List ℕ) (names : List (List ℕ)) → is_open name names ≡ false → is_open name (without file names) ≡ false
still_new file name [] e = refl
still_new file name (m ∷ names) e = by_owner (owns file m) (still_new file name names (none_second (bytes_eq name m) (is_open name names) e))
  where
    by_owner : (b : Bool) → is_open name (without file names) ≡ false → is_open name (if b then without file names else m ∷ without file names) ≡ false
    by_owner true ih = ih
    by_owner false ih = rw (none_first (bytes_eq name m) (is_open name names) e) ih

distinct_out : (file : RoleFile) (names : List (List ℕ)) → AreDistinct names → AreDistinct (without file names)
distinct_out file [] d = tt
distinct_out file (name ∷ names) d = by_owner (owns file name) (distinct_out file names (d.1))
  where
    by_owner : (b : Bool) → AreDistinct (without file names) → AreDistinct (if b then without file names else name ∷ without file names)
    by_owner true ih = ih
    by_owner false ih = (still_new file name names (d.0), ih)

owned_out : (file : RoleFile) (files : List RoleFile) (names : List (List ℕ)) → AllByRecursion (HasOne (file ∷ files)) names → AllByRecursion (HasOne files) (without file names)
owned_out file files [] a = tt
owned_out file files (name ∷ names) a = by_owner (owns file name) (a.0) (owned_out file files names (a.1))
  where
    by_owner : (b : Bool) → (b || list_any (λ (it : RoleFile). owns it name) files) ≡ true → AllByRecursion (HasOne files) (without file names)
        → AllByRecursion (HasOne files) (if b then without file names else name ∷ without file names)
    by_owner true e ih = ih
    by_owner false e ih = (e, ih)

few : (files : List RoleFile) (names : List (List ℕ)) → AreDistinct names → AllByRecursion (HasOne files) names → length names ≤ length files
few [] [] d a = omega arith
few [] (name ∷ names) d a = let wrong = a.0 in cc
few (file ∷ files) names d a =
    le_trans (few_out file names d) (suc-le-suc (few files (without file names) (distinct_out file names d) (owned_out file files names a)))

all_have : (files : RoleFiles) (names : List (List ℕ)) → AllByRecursion (λ (name : List ℕ). has_none files name ≡ false) names → AllByRecursion (HasOne files.files) names
all_have files [] a = tt
all_have files (name ∷ names) a = (has_file files name (a.0), all_have files names (a.1))

pub few_open : (files : RoleFiles) (names : List (List ℕ)) → AreDistinct names → AllByRecursion (λ (name : List ℕ). has_none files name ≡ false) names
    → length names ≤ length files.files
few_open files names d a = few files.files names d (all_have files names a)
