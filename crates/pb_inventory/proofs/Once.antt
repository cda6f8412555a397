-- Names that are read one by one, each kept where it is new, are the first mentions.
use Rattle.std.proofs.Common.{◌≡◌, ◌<◌, ℕ, Bool, true, false, List, [], ◌∷◌, ◌++◌, length, cond, String, Global, string_bytes, string_cmp, Ordering, Less, Equal, Greater, nat_cmp, arith, refl, ap, sym, ◌∙◌, append_assoc, append-nil}
use Rattle.std.specs.Prelude.{not, filter, ◌&&◌, ◌||◌}
use Rattle.std.specs.List.{list_any, AllByRecursion}
use Rattle.std.specs.List.Sorted.{IsStrictlySortedBy}
use Rattle.std.specs.Ordering.{is_eq, match_ordering}
use Rattle.std.specs.Cmp.Lexicographic.{slice_cmp}
use Rattle.std.proofs.lemmas.Map.Text.{is_eq-slice_cmp}
use Rattle.std.specs.Str.{bytes_eq}
use Rattle.std.proofs.lemmas.Slice.Eq.{bytes_eq-Decides}
use Rattle.std.proofs.lemmas.Bool.Decides.{same_from_decides, Decides-like}
use Rattle.std.proofs.lemmas.List.Folds.{list_any-append}
use Rattle.pb_inventory.specs.Names.{texts, once, with_name, with_names, in_place, all_in_place, in_byte_order}
use Rattle.pb_inventory.specs.Graph.{all, ungrouped, mentioned_groups, group_names}
use Rattle.pb_inventory.specs.declared.listed.Listed.{Listed}

-- those of the names that aren't known
abbrev pub is_new : List (List ℕ) → List ℕ → Bool
is_new known name = not (list_any (bytes_eq name) known)

-- the known names, and then the first mentions of new ones
abbrev pub joined : List (List ℕ) → List (List ℕ) → List (List ℕ)
joined known names = known ++ filter (is_new known) (once names)

filter-step : (q : List ℕ → Bool) (x : List ℕ) (some all : List (List ℕ)) (a b c : Bool) → q x ≡ b → c ≡ (a && b) → filter q some ≡ all → filter q (cond a (x ∷ some) some) ≡ cond c (x ∷ all) all
filter-step q x some all true true c e s i = rw (e, s, i)
filter-step q x some all true false c e s i = rw (e, s, i)
filter-step q x some all false b c e s i = rw (s, i)

filter-both : (p q r : List ℕ → Bool) → ((x : List ℕ) → r x ≡ (p x && q x)) → (xs : List (List ℕ)) → filter q (filter p xs) ≡ filter r xs
filter-both p q r h [] = refl
filter-both p q r h (x ∷ xs) = filter-step q x (filter p xs) (filter r xs) (p x) (q x) (r x) refl (h x) (filter-both p q r h xs)

filter-all : (xs : List (List ℕ)) → filter (is_new []) xs ≡ xs
filter-all [] = refl
filter-all (x ∷ xs) = ap (λ t. x ∷ t) (filter-all xs)

pub joined-none : (names : List (List ℕ)) → joined [] names ≡ once names
joined-none names = filter-all (once names)

bytes_eq-sym : (x y : List ℕ) → bytes_eq x y ≡ bytes_eq y x
bytes_eq-sym x y = same_from_decides _ _ (bytes_eq-Decides x y) (Decides-like _ (λ e. sym e) (λ e. sym e) (bytes_eq-Decides y x))

-- a name that is known already adds nothing
known_cases : (known : List (List ℕ)) (name x : List ℕ) (b : Bool) → bytes_eq name x ≡ b → list_any (bytes_eq name) known ≡ true → is_new known x ≡ (not b && is_new known x)
known_cases known name x false e k = refl
known_cases known name x true e k = rw (← (bytes_eq-Decides name x).0 e, k)

known_adds_none : (known : List (List ℕ)) (name : List ℕ) → list_any (bytes_eq name) known ≡ true → (x : List ℕ) → is_new known x ≡ (not (bytes_eq name x) && is_new known x)
known_adds_none known name k x = known_cases known name x (bytes_eq name x) refl k

not-or : (a b : Bool) → not (a || (b || false)) ≡ (not b && not a)
not-or true true = refl
not-or true false = refl
not-or false true = refl
not-or false false = refl

new_adds_it : (known : List (List ℕ)) (name x : List ℕ) → is_new (known ++ name ∷ []) x ≡ (not (bytes_eq name x) && is_new known x)
new_adds_it known name x = rw (list_any-append (bytes_eq x) known (name ∷ []), bytes_eq-sym x name) (not-or (list_any (bytes_eq x) known) (bytes_eq name x))

joined_cases : (known : List (List ℕ)) (name : List ℕ) (names : List (List ℕ)) (b : Bool) → list_any (bytes_eq name) known ≡ b
    → known ++ cond (not b) (name ∷ filter (is_new known) (filter (λ other. not (bytes_eq name other)) (once names))) (filter (is_new known) (filter (λ other. not (bytes_eq name other)) (once names)))
    ≡ joined (cond b known (known ++ name ∷ [])) names
joined_cases known name names true e = ap (λ t. known ++ t) (filter-both _ (is_new known) (is_new known) (known_adds_none known name e) (once names))
joined_cases known name names false e =
    ap (λ t. known ++ name ∷ t) (filter-both _ (is_new known) (is_new (known ++ name ∷ [])) (new_adds_it known name) (once names))
    ∙ sym (append_assoc known (name ∷ []) _)

-- the first name is taken in, and the others follow
pub joined-step : (known : List (List ℕ)) (name : List ℕ) (names : List (List ℕ)) → joined known (name ∷ names) ≡ joined (with_name name known) names
joined-step known name names = joined_cases known name names (list_any (bytes_eq name) known) refl

-- the names one after another
pub with_names-once : (names known : List (List ℕ)) → with_names names known ≡ joined known names
with_names-once [] known = sym (append-nil known)
with_names-once (name ∷ names) known = with_names-once names (with_name name known) ∙ sym (joined-step known name names)

pub with_names-none : (names : List (List ℕ)) → with_names names [] ≡ once names
with_names-none names = with_names-once names [] ∙ joined-none names

pub with_names-append : (names more known : List (List ℕ)) → with_names (names ++ more) known ≡ with_names more (with_names names known)
with_names-append [] more known = refl
with_names-append (name ∷ names) more known = with_names-append names more (with_name name known)

pub all_in_place-append : (names more known : List (List ℕ)) → all_in_place (names ++ more) known ≡ all_in_place more (all_in_place names known)
all_in_place-append [] more known = refl
all_in_place-append (name ∷ names) more known = all_in_place-append names more (in_place name known)

pub group_names_begun : (rest names : List (List ℕ)) → names ≡ in_place ungrouped (in_place all []) → all_in_place rest names ≡ in_byte_order (all ∷ ungrouped ∷ rest)
group_names_begun rest names is = ap (all_in_place rest) is

-- names that rise are there once
apart : (a b : List ℕ) → slice_cmp nat_cmp a b ≡ Less → not (bytes_eq a b) ≡ true
apart a b e = ap not (sym (is_eq-slice_cmp a b) ∙ ap is_eq e)

all_apart : (k : String Global) (ks : List (String Global)) → AllByRecursion (λ y. string_cmp k y ≡ Less) ks → filter (λ other. not (bytes_eq (string_bytes k) other)) (texts ks) ≡ texts ks
all_apart k [] h = refl
all_apart k (x ∷ xs) h = rw (apart (string_bytes k) (string_bytes x) h.0, all_apart k xs h.1)

pub once-sorted : (ks : List (String Global)) → IsStrictlySortedBy string_cmp ks → once (texts ks) ≡ texts ks
unfolding IsStrictlySortedBy
once-sorted [] h = refl
once-sorted (k ∷ ks) h = ap (λ t. string_bytes k ∷ filter (λ other. not (bytes_eq (string_bytes k) other)) t) (once-sorted ks h.1) ∙ ap (λ t. string_bytes k ∷ t) (all_apart k ks h.0)

-- some name is there
some_matched : (name x : List ℕ) (xs ys : List (List ℕ)) (o : Ordering) → 0 < length (match_ordering o (name ∷ x ∷ xs) (x ∷ xs) (x ∷ ys))
some_matched name x xs ys Less = omega arith
some_matched name x xs ys Equal = omega arith
some_matched name x xs ys Greater = omega arith

some_inserted : (name : List ℕ) (names : List (List ℕ)) → 0 < length (in_place name names)
some_inserted name [] = omega arith
some_inserted name (x ∷ xs) = some_matched name x xs (in_place name xs) (slice_cmp nat_cmp name x)

some_left : (names known : List (List ℕ)) → 0 < length known → 0 < length (all_in_place names known)
some_left [] known w = w
some_left (name ∷ names) known w = some_left names (in_place name known) (some_inserted name known)

pub some_group : (listed : List Listed) → 0 < length (group_names listed)
some_group listed = some_left (ungrouped ∷ mentioned_groups listed) (in_place all []) (some_inserted all [])
