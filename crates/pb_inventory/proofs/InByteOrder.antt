-- Names that are put one after another at their places rise in byte order, and are exactly these names.
use Rattle.std.proofs.Common.{◌≡◌, ◌||◌, ℕ, Bool, true, false, List, [], ◌∷◌, Ordering, Less, Equal, Greater, nat_cmp, refl, ap, sym, ◌∙◌}
use Rattle.std.specs.List.{list_any, AllByRecursion}
use Rattle.std.specs.List.Sorted.{IsStrictlySortedBy}
use Rattle.std.specs.Ordering.{is_eq, match_ordering, ordering_reverse}
use Rattle.std.specs.Cmp.Lexicographic.{slice_cmp}
use Rattle.std.specs.Str.{bytes_eq}
use Rattle.std.proofs.lemmas.Cmp.{nat_list_cmp_total}
use Rattle.std.proofs.lemmas.Map.Text.{is_eq-slice_cmp}
use Rattle.std.proofs.lemmas.Slice.Eq.{bytes_eq-Decides}
use Rattle.pb_inventory.specs.Names.{in_place, all_in_place, in_byte_order}

abbrev names_cmp : List ℕ → List ℕ → Ordering
names_cmp = slice_cmp nat_cmp

turned : (x y : List ℕ) → names_cmp x y ≡ Greater → names_cmp y x ≡ Less
turned x y e = nat_list_cmp_total.antisymm y x ∙ ap ordering_reverse e

below_all : (name x : List ℕ) (xs : List (List ℕ)) → names_cmp name x ≡ Less → AllByRecursion (λ y. names_cmp x y ≡ Less) xs → AllByRecursion (λ y. names_cmp name y ≡ Less) xs
below_all name x [] w h = tt
below_all name x (y ∷ ys) w h = (nat_list_cmp_total.trans name x y w h.0, below_all name x ys w h.1)

below_placed : (x name y : List ℕ) (ys placed : List (List ℕ)) (o : Ordering) → names_cmp x name ≡ Less → names_cmp x y ≡ Less → AllByRecursion (λ z. names_cmp x z ≡ Less) ys
    → AllByRecursion (λ z. names_cmp x z ≡ Less) placed → AllByRecursion (λ z. names_cmp x z ≡ Less) (match_ordering o (name ∷ y ∷ ys) (y ∷ ys) (y ∷ placed))
below_placed x name y ys placed Less w v h p = (w, (v, h))
below_placed x name y ys placed Equal w v h p = (v, h)
below_placed x name y ys placed Greater w v h p = (v, p)

below_in_place : (x name : List ℕ) (ys : List (List ℕ)) → names_cmp x name ≡ Less → AllByRecursion (λ z. names_cmp x z ≡ Less) ys → AllByRecursion (λ z. names_cmp x z ≡ Less) (in_place name ys)
below_in_place x name [] w h = (w, tt)
below_in_place x name (y ∷ ys) w h = below_placed x name y ys (in_place name ys) (names_cmp name y) w h.0 h.1 (below_in_place x name ys w h.1)

rising_placed : (name x : List ℕ) (xs placed : List (List ℕ)) (o : Ordering) → names_cmp name x ≡ o → IsStrictlySortedBy names_cmp (x ∷ xs)
    → (names_cmp x name ≡ Less → AllByRecursion (λ z. names_cmp x z ≡ Less) placed) → IsStrictlySortedBy names_cmp placed
    → IsStrictlySortedBy names_cmp (match_ordering o (name ∷ x ∷ xs) (x ∷ xs) (x ∷ placed))
unfolding IsStrictlySortedBy
rising_placed name x xs placed Less e h below p = ((e, below_all name x xs e h.0), h)
rising_placed name x xs placed Equal e h below p = h
rising_placed name x xs placed Greater e h below p = (below (turned name x e), p)

rising_in_place : (name : List ℕ) (xs : List (List ℕ)) → IsStrictlySortedBy names_cmp xs → IsStrictlySortedBy names_cmp (in_place name xs)
unfolding IsStrictlySortedBy
rising_in_place name [] h = (tt, tt)
rising_in_place name (x ∷ xs) h = rising_placed name x xs (in_place name xs) (names_cmp name x) refl h (λ w. below_in_place x name xs w h.0) (rising_in_place name xs h.1)

rising_all : (names known : List (List ℕ)) → IsStrictlySortedBy names_cmp known → IsStrictlySortedBy names_cmp (all_in_place names known)
rising_all [] known h = h
rising_all (name ∷ names) known h = rising_all names (in_place name known) (rising_in_place name known h)

none_rises : IsStrictlySortedBy names_cmp []
unfolding IsStrictlySortedBy
none_rises = tt

pub in_byte_order-rises : (names : List (List ℕ)) → IsStrictlySortedBy names_cmp (in_byte_order names)
in_byte_order-rises names = rising_all names [] none_rises

-- which names are there
or_twice : (a b : Bool) → (a || b) ≡ (a || (a || b))
or_twice true b = refl
or_twice false b = refl

or_turned : (a b c : Bool) → (b || (a || c)) ≡ (a || (b || c))
or_turned true true c = refl
or_turned true false c = refl
or_turned false b c = refl

or_onward : (a b c : Bool) → (b || (a || c)) ≡ ((a || b) || c)
or_onward true true c = refl
or_onward true false c = refl
or_onward false b c = refl

same_name : (name x : List ℕ) → names_cmp name x ≡ Equal → name ≡ x
same_name name x e = (bytes_eq-Decides name x).0 (sym (is_eq-slice_cmp name x) ∙ ap is_eq e)

among_placed : (q name x : List ℕ) (xs placed : List (List ℕ)) (o : Ordering) → names_cmp name x ≡ o → list_any (bytes_eq q) placed ≡ (bytes_eq q name || list_any (bytes_eq q) xs)
    → list_any (bytes_eq q) (match_ordering o (name ∷ x ∷ xs) (x ∷ xs) (x ∷ placed)) ≡ (bytes_eq q name || (bytes_eq q x || list_any (bytes_eq q) xs))
among_placed q name x xs placed Less e p = refl
among_placed q name x xs placed Equal e p =
    or_twice (bytes_eq q x) (list_any (bytes_eq q) xs) ∙ ap (λ n. bytes_eq q n || (bytes_eq q x || list_any (bytes_eq q) xs)) (sym (same_name name x e))
among_placed q name x xs placed Greater e p = ap (λ b. bytes_eq q x || b) p ∙ or_turned (bytes_eq q name) (bytes_eq q x) (list_any (bytes_eq q) xs)

among_in_place : (q name : List ℕ) (xs : List (List ℕ)) → list_any (bytes_eq q) (in_place name xs) ≡ (bytes_eq q name || list_any (bytes_eq q) xs)
among_in_place q name [] = refl
among_in_place q name (x ∷ xs) = among_placed q name x xs (in_place name xs) (names_cmp name x) refl (among_in_place q name xs)

among_all : (q : List ℕ) (names known : List (List ℕ)) → list_any (bytes_eq q) (all_in_place names known) ≡ (list_any (bytes_eq q) names || list_any (bytes_eq q) known)
among_all q [] known = refl
among_all q (name ∷ names) known =
    among_all q names (in_place name known) ∙ ap (λ b. list_any (bytes_eq q) names || b) (among_in_place q name known)
    ∙ or_onward (bytes_eq q name) (list_any (bytes_eq q) names) (list_any (bytes_eq q) known)

or_none : (a : Bool) → (a || false) ≡ a
or_none true = refl
or_none false = refl

pub in_byte_order-has : (q : List ℕ) (names : List (List ℕ)) → list_any (bytes_eq q) (in_byte_order names) ≡ list_any (bytes_eq q) names
in_byte_order-has q names = among_all q names [] ∙ or_none (list_any (bytes_eq q) names)
