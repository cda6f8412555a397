-- The groups of a host, in the order in which their variables merge, say which groups it belongs to.
use Rattle.std.proofs.Common.{◌≡◌, ◌<◌, ◌||◌, ◌&&◌, ℕ, zero, suc, ℤ, Bool, true, false, cond, List, [], ◌∷◌, map, length, Ordering, Less, Equal, Greater, nat_cmp, arith, refl, ap, sym, ◌∙◌}
use Rattle.std.specs.Prelude.{◌==◌, filter, not, nat_lt}
use Rattle.std.specs.BTreeSet.{insert_key}
use Rattle.std.specs.List.{list_any}
use Rattle.std.specs.Ordering.{match_ordering, ordering_then}
use Rattle.std.specs.Str.{bytes_eq}
use Rattle.std.proofs.lemmas.Bool.{eqb-true, lt-ltb}
use Rattle.std.proofs.lemmas.Bool.Decides.{nat_tests}
use Rattle.std.proofs.lemmas.Cmp.{ranked}
use Rattle.pb_ids.specs.declared.numbers.GroupNo.{GroupNo}
use Rattle.pb_groups.specs.GroupsOf.{GroupsOf}
use Rattle.pb_groups.specs.Merging.{merge_cmp, group_no, first_in_order, in_order, has_member, merge_order, is_among, depth_of}
use Rattle.pb_inventory.specs.InventoryOf.{InventoryOf}
use Rattle.pb_inventory.specs.Graph.{all}
use Rattle.pb_inventory.specs.Vars.{graph_of, priorities_of, groups_of_host, group_name, is_named, names_of_groups}
use Rattle.pb_inventory.proofs.Ranges.{filter_same}

-- what is inserted at its place is there beside the others
or_both : (a b c : Bool) → (a || (b || c)) ≡ (b || (a || c))
or_both true true c = refl
or_both true false c = refl
or_both false true c = refl
or_both false false c = refl

or_same : (a b c : Bool) → a ≡ b → (b || c) ≡ (a || (b || c))
or_same true b c e = rw (← e) refl
or_same false b c e = refl

any_matched : {X : Type 0} (p : X → Bool) (x y : X) (ys zs : List X) (o : Ordering) → (o ≡ Equal → p x ≡ p y) → list_any p zs ≡ (p x || list_any p ys)
    → list_any p (match_ordering o (x ∷ y ∷ ys) (y ∷ ys) (y ∷ zs)) ≡ (p x || (p y || list_any p ys))
any_matched p x y ys zs Less same e = refl
any_matched p x y ys zs Equal same e = or_same (p x) (p y) (list_any p ys) (same refl)
any_matched p x y ys zs Greater same e = ap (λ b. p y || b) e ∙ or_both (p y) (p x) (list_any p ys)

any_inserted : {X : Type 0} (c : X → X → Ordering) (p : X → Bool) → ((x y : X) → c x y ≡ Equal → p x ≡ p y) → (xs : List X) (x : X) → list_any p (insert_key c xs x) ≡ (p x || list_any p xs)
any_inserted c p same [] x = refl
any_inserted c p same (y ∷ ys) x = any_matched p x y ys (insert_key c ys x) (c x y) (same x y) (any_inserted c p same ys x)

-- two groups of one key are one group
then_equal : (a b : Ordering) → ordering_then a b ≡ Equal → b ≡ Equal
then_equal Less b e = cc
then_equal Equal b e = e
then_equal Greater b e = cc

ranked_equal : (x y : ℕ) (o : Ordering) → o ≡ nat_cmp x y → o ≡ Equal → x ≡ y
ranked_equal x y Less is e = cc
ranked_equal x y Equal is e = ranked x y Equal is
ranked_equal x y Greater is e = cc

same_number : (groups : GroupsOf) (priorities : List ℤ) (a b : GroupNo) → merge_cmp groups priorities a b ≡ Equal → a.0 ≡ b.0
same_number groups priorities a b e =
    let c = then_equal _ _ (then_equal (nat_cmp (depth_of groups a.0) (depth_of groups b.0)) _ e) in ranked_equal a.0 b.0 (nat_cmp a.0 b.0) refl c

-- each group has its place in the order
first_among : (groups : GroupsOf) (priorities : List ℤ) (group n : ℕ) → is_among (first_in_order groups priorities n) group ≡ nat_lt group n
first_among groups priorities group zero = grind (arith, nat_tests)
first_among groups priorities group (suc n) =
    any_inserted (merge_cmp groups priorities) (λ g. g.0 == group) (λ a b e. ap (λ k. k == group) (same_number groups priorities a b e)) (first_in_order groups priorities n) (group_no n)
    ∙ ap (λ b. (n == group) || b) (first_among groups priorities group n) ∙ grind (arith, nat_tests)

-- and those that have the host are left
number_is : (g : GroupNo) (group : ℕ) → (g.0 == group) ≡ true → g ≡ group_no group
number_is g group e = ap group_no (eqb-true g.0 group e)

and_false : (b : Bool) → (b && false) ≡ false
and_false true = refl
and_false false = refl

and_true : (b : Bool) → (b && true) ≡ b
and_true true = refl
and_true false = refl

left_matched : (q : GroupNo → Bool) (g : GroupNo) (gs : List GroupNo) (group : ℕ) (b is : Bool) → q g ≡ b → (g.0 == group) ≡ is → is_among (filter q gs) group ≡ (q (group_no group) && is_among gs group)
    → is_among (cond b (g ∷ filter q gs) (filter q gs)) group ≡ (q (group_no group) && (is || is_among gs group))
left_matched q g gs group true true t e h = ap (λ i. i || is_among (filter q gs) group) e ∙ sym (ap (λ c. c && true) (ap q (sym (number_is g group e)) ∙ t))
left_matched q g gs group true false t e h = ap (λ i. i || is_among (filter q gs) group) e ∙ h
left_matched q g gs group false true t e h = h ∙ rw (ap q (sym (number_is g group e)) ∙ t)
left_matched q g gs group false false t e h = h

left_among : (q : GroupNo → Bool) (order : List GroupNo) (group : ℕ) → is_among (filter q order) group ≡ (q (group_no group) && is_among order group)
left_among q [] group = sym (and_false (q (group_no group)))
left_among q (g ∷ gs) group = left_matched q g gs group (q g) (g.0 == group) refl refl (left_among q gs group)

belongs_as_listed : (groups : GroupsOf) (priorities : List ℤ) (host group : ℕ) → group < groups.groups → is_among (merge_order groups priorities host) group ≡ has_member groups group host
belongs_as_listed groups priorities host group below =
    left_among (λ g. has_member groups g.0 host) (in_order groups priorities) group
    ∙ ap (λ b. has_member groups group host && b) (first_among groups priorities group groups.groups ∙ lt-ltb _ _ below)
    ∙ and_true (has_member groups group host)

-- so hosts with the same groups, in that order, have the same names of groups
same_belonging : (inventory : InventoryOf) (h k group : ℕ) → groups_of_host inventory h ≡ groups_of_host inventory k → group < length inventory.groups
    → has_member (graph_of inventory) group h ≡ has_member (graph_of inventory) group k
same_belonging inventory h k group same below =
    sym (belongs_as_listed (graph_of inventory) (priorities_of inventory) h group below) ∙ ap (λ (order : List GroupNo). is_among order group) same
    ∙ belongs_as_listed (graph_of inventory) (priorities_of inventory) k group below

pub same_names : (inventory : InventoryOf) (h k : ℕ) → groups_of_host inventory h ≡ groups_of_host inventory k → names_of_groups inventory h ≡ names_of_groups inventory k
same_names inventory h k same =
    ap (map (group_name inventory))
    (filter_same (is_named inventory h) (is_named inventory k) 0 (length inventory.groups)
    (λ group low high. ap (λ (b : Bool). b && not (bytes_eq (group_name inventory group) all)) (same_belonging inventory h k group same (omega (arith, high)))))
