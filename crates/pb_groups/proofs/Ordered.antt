-- Groups in the order of their keys.
use Rattle.std.proofs.Common.{◌≡◌, ◌<◌, ◌||◌, ◌&&◌, ℕ, zero, suc, ℤ, Bool, true, false, cond, List, [], ◌∷◌, map, length, Ordering, Less, Equal, Greater, nat_cmp, arith, refl, ap, sym, subst, ◌∙◌}
use Rattle.std.specs.Prelude.{◌==◌, filter, nat_lt}
use Rattle.std.specs.BTreeSet.{insert_key}
use Rattle.std.specs.List.{list_any, All, AllByRecursion}
use Rattle.std.specs.List.Sorted.{IsStrictlySortedBy}
use Rattle.std.specs.Ordering.{match_ordering, ordering_then}
use Rattle.std.proofs.lemmas.Bool.{eqb-true, lt-ltb}
use Rattle.std.proofs.lemmas.Bool.Decides.{nat_tests}
use Rattle.std.proofs.lemmas.Cmp.{ranked}
use Rattle.std.proofs.lemmas.List.Elements.{All-from_recursion}
use Rattle.std.proofs.lemmas.List.Kept.{IsStrictlySortedBy-filter}
use Rattle.pb_ids.specs.declared.numbers.GroupNo.{GroupNo}
use Rattle.pb_groups.specs.declared.merging.MergeKey.{MergeKey}
use Rattle.pb_groups.specs.declared.links.ChildLink.{ChildLink}
use Rattle.pb_groups.specs.declared.links.OwnHost.{OwnHost}
use Rattle.pb_groups.specs.GroupsOf.{GroupsOf}
use Rattle.pb_groups.specs.Depths.{AreDepths}
use Rattle.pb_groups.specs.Members.{IsMember, AreOwnBelow}
use Rattle.pb_groups.specs.Planes.{AreFilled}
use Rattle.pb_groups.specs.Kept.{IsKept}
use Rattle.pb_groups.specs.Merging.{key_cmp, key_of, merge_cmp, group_no, first_in_order, in_order, has_member, with_host, merge_order, is_among, depth_of, IsInOrder, AreGroupsOf}
use Rattle.pb_groups.specs.Keys.{keys_to, key_at, has_host}
use Rattle.pb_groups.specs.Ways.{AreLinksBelow}
use Rattle.pb_groups.proofs.Laws.{way_below}
use Rattle.pb_groups.proofs.Found.{depth_is, member_exactly, plane_is}

-- a key goes where its group goes
map-match_ordering : {X Y : Type 0} (f : X → Y) (o : Ordering) (a b c : List X) → map f (match_ordering o a b c) ≡ match_ordering o (map f a) (map f b) (map f c)
map-match_ordering f Less a b c = refl
map-match_ordering f Equal a b c = refl
map-match_ordering f Greater a b c = refl

map-insert_key : {X Y : Type 0} (f : X → Y) (c : Y → Y → Ordering) (xs : List X) (x : X) → map f (insert_key (λ a b. c (f a) (f b)) xs x) ≡ insert_key c (map f xs) (f x)
map-insert_key f c [] x = refl
map-insert_key f c (y ∷ ys) x = map-match_ordering f (c (f x) (f y)) _ _ _ ∙ ap (λ t. match_ordering (c (f x) (f y)) (f x ∷ f y ∷ map f ys) (f y ∷ map f ys) (f y ∷ t)) (map-insert_key f c ys x)

abbrev pub key : GroupsOf → List ℤ → GroupNo → MergeKey
key groups priorities g = key_of groups priorities g.0

keys_are : (groups : GroupsOf) (priorities : List ℤ) (depths : List ℕ) → AreDepths groups.links groups.groups depths → (n : ℕ) → keys_to depths priorities n ≡ map (key groups priorities) (first_in_order groups priorities n)
keys_are groups priorities depths falls zero = refl
keys_are groups priorities depths falls (suc n) =
    ap (λ d. insert_key key_cmp (keys_to depths priorities n) (record (key_at depths priorities n) { depth = d })) (depth_is groups.links groups.groups depths n falls)
    ∙ ap (λ ks. insert_key key_cmp ks (key_of groups priorities n)) (keys_are groups priorities depths falls n)
    ∙ sym (map-insert_key (key groups priorities) key_cmp (first_in_order groups priorities n) (group_no n))

back : (groups : GroupsOf) (priorities : List ℤ) (order : List GroupNo) → map (λ k. group_no k.group) (map (key groups priorities) order) ≡ order
back groups priorities [] = refl
back groups priorities (g ∷ gs) = ap (λ t. g ∷ t) (back groups priorities gs)

pub order_is : (groups : GroupsOf) (priorities : List ℤ) (depths : List ℕ) (n : ℕ) (keys : List MergeKey) (order : List GroupNo) → AreDepths groups.links groups.groups depths → n ≡ groups.groups
    → keys ≡ keys_to depths priorities n → order ≡ map (λ k. group_no k.group) keys → order ≡ in_order groups priorities
order_is groups priorities depths n keys order falls is k o =
    o ∙ ap (map (λ k. group_no k.group)) (k ∙ ap (keys_to depths priorities) is ∙ keys_are groups priorities depths falls groups.groups) ∙ back groups priorities (in_order groups priorities)

-- groups rise where their keys do
all_mapped : {X Y : Type 0} (f : X → Y) (P : Y → Type 0) (xs : List X) → AllByRecursion P (map f xs) → AllByRecursion (λ x. P (f x)) xs
all_mapped f P [] h = tt
all_mapped f P (x ∷ xs) h = (h.0, all_mapped f P xs h.1)

rising_mapped : {X Y : Type 0} (f : X → Y) (c : Y → Y → Ordering) (xs : List X) → IsStrictlySortedBy c (map f xs) → IsStrictlySortedBy (λ a b. c (f a) (f b)) xs
unfolding IsStrictlySortedBy
rising_mapped f c [] h = tt
rising_mapped f c (x ∷ xs) h = (all_mapped f (λ y. c (f x) y ≡ Less) xs h.0, rising_mapped f c xs h.1)

rising_at : (keys others : List MergeKey) → keys ≡ others → IsStrictlySortedBy key_cmp keys → IsStrictlySortedBy key_cmp others
rising_at keys others is h = rw (← is) h

pub order_rises : (groups : GroupsOf) (priorities : List ℤ) (depths : List ℕ) (n : ℕ) (keys : List MergeKey) (order : List GroupNo) → AreDepths groups.links groups.groups depths → n ≡ groups.groups
    → keys ≡ keys_to depths priorities n → order ≡ map (λ k. group_no k.group) keys → IsStrictlySortedBy key_cmp keys → IsInOrder groups priorities order
order_rises groups priorities depths n keys order falls is k o h =
    rw (order_is groups priorities depths n keys order falls is k o)
    (rising_mapped (key groups priorities) key_cmp (in_order groups priorities) (rising_at keys _ (k ∙ ap (keys_to depths priorities) is ∙ keys_are groups priorities depths falls groups.groups) h))

-- all groups are there
all_matched : {X : Type 0} (P : X → Type 0) (x y : X) (ys zs : List X) (o : Ordering) → P x → AllByRecursion P (y ∷ ys) → AllByRecursion P zs → AllByRecursion P (match_ordering o (x ∷ y ∷ ys) (y ∷ ys) (y ∷ zs))
all_matched P x y ys zs Less p h r = (p, h)
all_matched P x y ys zs Equal p h r = h
all_matched P x y ys zs Greater p h r = (h.0, r)

all_inserted : {X : Type 0} (c : X → X → Ordering) (P : X → Type 0) (xs : List X) (x : X) → P x → AllByRecursion P xs → AllByRecursion P (insert_key c xs x)
all_inserted c P [] x p h = (p, tt)
all_inserted c P (y ∷ ys) x p h = all_matched P x y ys (insert_key c ys x) (c x y) p h (all_inserted c P ys x p h.1)

all_more : {X : Type 0} (P Q : X → Type 0) → ((x : X) → P x → Q x) → (xs : List X) → AllByRecursion P xs → AllByRecursion Q xs
all_more P Q more [] h = tt
all_more P Q more (x ∷ xs) h = (more x h.0, all_more P Q more xs h.1)

first_below : (groups : GroupsOf) (priorities : List ℤ) (n : ℕ) → AllByRecursion (λ g. g.0 < n) (first_in_order groups priorities n)
first_below groups priorities zero = tt
first_below groups priorities (suc n) =
    all_inserted (merge_cmp groups priorities) (λ g. g.0 < suc n) (first_in_order groups priorities n) (group_no n) (omega arith)
    (all_more (λ g. g.0 < n) (λ g. g.0 < suc n) (λ g w. omega (arith, w)) (first_in_order groups priorities n) (first_below groups priorities n))

pub order_below : (groups : GroupsOf) (priorities : List ℤ) (order : List GroupNo) → order ≡ in_order groups priorities → All (λ g. g.0 < groups.groups) order
order_below groups priorities order is = rw is (All-from_recursion (λ g. g.0 < groups.groups) (in_order groups priorities) (first_below groups priorities groups.groups))

or_both : (a b c : Bool) → (a || (b || c)) ≡ (b || (a || c))
or_both true true c = refl
or_both true false c = refl
or_both false true c = refl
or_both false false c = refl

or_same : (a b c : Bool) → a ≡ b → (b || c) ≡ (a || (b || c))
or_same true b c e = rw (← e) refl
or_same false b c e = refl

any_matched : {X : Type 0} (p : X → Bool) (x y : X) (ys zs : List X) (o : Ordering) → (o ≡ Equal → p x ≡ p y) → list_any p zs ≡ (p x || list_any p ys)
    → list_any p (match_ordering o (x ∷ y ∷ ys) (y ∷ ys) (y ∷ zs)) ≡ (p x || (p y || list_any p ys))
any_matched p x y ys zs Less same e = refl
any_matched p x y ys zs Equal same e = or_same (p x) (p y) (list_any p ys) (same refl)
any_matched p x y ys zs Greater same e = ap (λ b. p y || b) e ∙ or_both (p y) (p x) (list_any p ys)

any_inserted : {X : Type 0} (c : X → X → Ordering) (p : X → Bool) → ((x y : X) → c x y ≡ Equal → p x ≡ p y) → (xs : List X) (x : X) → list_any p (insert_key c xs x) ≡ (p x || list_any p xs)
any_inserted c p same [] x = refl
any_inserted c p same (y ∷ ys) x = any_matched p x y ys (insert_key c ys x) (c x y) (same x y) (any_inserted c p same ys x)

then_equal : (a b : Ordering) → ordering_then a b ≡ Equal → b ≡ Equal
then_equal Less b e = cc
then_equal Equal b e = e
then_equal Greater b e = cc

ranked_equal : (x y : ℕ) (o : Ordering) → o ≡ nat_cmp x y → o ≡ Equal → x ≡ y
ranked_equal x y Less is e = cc
ranked_equal x y Equal is e = ranked x y Equal is
ranked_equal x y Greater is e = cc

same_number : (groups : GroupsOf) (priorities : List ℤ) (a b : GroupNo) → merge_cmp groups priorities a b ≡ Equal → a.0 ≡ b.0
same_number groups priorities a b e =
    let c = then_equal _ _ (then_equal (nat_cmp (depth_of groups a.0) (depth_of groups b.0)) _ e) in ranked_equal a.0 b.0 (nat_cmp a.0 b.0) refl c

first_among : (groups : GroupsOf) (priorities : List ℤ) (group n : ℕ) → is_among (first_in_order groups priorities n) group ≡ nat_lt group n
first_among groups priorities group zero = grind (arith, nat_tests)
first_among groups priorities group (suc n) =
    any_inserted (merge_cmp groups priorities) (λ g. g.0 == group) (λ a b e. ap (λ k. k == group) (same_number groups priorities a b e)) (first_in_order groups priorities n) (group_no n)
    ∙ ap (λ b. (n == group) || b) (first_among groups priorities group n) ∙ grind (arith, nat_tests)

-- a filter keeps those that pass
number_is : (g : GroupNo) (group : ℕ) → (g.0 == group) ≡ true → g ≡ group_no group
number_is g group e = ap group_no (eqb-true g.0 group e)

and_false : (b : Bool) → (b && false) ≡ false
and_false true = refl
and_false false = refl

kept_matched : (q : GroupNo → Bool) (g : GroupNo) (gs : List GroupNo) (group : ℕ) (b is : Bool) → q g ≡ b → (g.0 == group) ≡ is → is_among (filter q gs) group ≡ (q (group_no group) && is_among gs group)
    → is_among (cond b (g ∷ filter q gs) (filter q gs)) group ≡ (q (group_no group) && (is || is_among gs group))
kept_matched q g gs group true true t e h = ap (λ i. i || is_among (filter q gs) group) e ∙ sym (ap (λ c. c && true) (ap q (sym (number_is g group e)) ∙ t))
kept_matched q g gs group true false t e h = ap (λ i. i || is_among (filter q gs) group) e ∙ h
kept_matched q g gs group false true t e h = h ∙ rw (ap q (sym (number_is g group e)) ∙ t)
kept_matched q g gs group false false t e h = h

kept_among : (q : GroupNo → Bool) (order : List GroupNo) (group : ℕ) → is_among (filter q order) group ≡ (q (group_no group) && is_among order group)
kept_among q [] group = sym (and_false (q (group_no group)))
kept_among q (g ∷ gs) group = kept_matched q g gs group (q g) (g.0 == group) refl refl (kept_among q gs group)

second_holds : (a b : Bool) → (a ≡ true → b ≡ true) → (a && b) ≡ a
second_holds true b h = h refl
second_holds false b h = refl

member_below : (groups : GroupsOf) (depths : List ℕ) → AreDepths groups.links groups.groups depths → AreLinksBelow groups.links groups.groups → AreOwnBelow groups.own groups.groups groups.hosts → (group host : ℕ)
    → IsMember groups.links groups.own group host → group < groups.groups
member_below groups depths falls links own group host member =
    way_below groups.links groups.groups links member.0 group member.1 (omega (arith, (own member.3.0 member.3.1).0, member.3.2)) member.2

among_exactly : (groups : GroupsOf) (priorities : List ℤ) (depths : List ℕ) → AreDepths groups.links groups.groups depths → AreLinksBelow groups.links groups.groups → AreOwnBelow groups.own groups.groups groups.hosts → (host group : ℕ)
    → is_among (merge_order groups priorities host) group ≡ has_member groups group host
among_exactly groups priorities depths falls links own host group =
    kept_among (λ g. has_member groups g.0 host) (in_order groups priorities) group
    ∙ second_holds (has_member groups group host) _
    (λ e. first_among groups priorities group groups.groups ∙ lt-ltb _ _ (member_below groups depths falls links own group host ((member_exactly groups.links groups.own groups.groups depths falls group host).0 e)))

pub groups_exactly : (groups : GroupsOf) (priorities : List ℤ) (depths : List ℕ) (host : ℕ) (order : List GroupNo) → AreDepths groups.links groups.groups depths → AreLinksBelow groups.links groups.groups
    → AreOwnBelow groups.own groups.groups groups.hosts → order ≡ merge_order groups priorities host → AreGroupsOf groups host order
groups_exactly groups priorities depths host order falls links own is group =
    let computed = member_exactly groups.links groups.own groups.groups depths falls group host in
    let same = ap (λ o. is_among o group) is ∙ among_exactly groups priorities depths falls links own host group in
    ((λ e. computed.0 (sym same ∙ e)), (λ m. same ∙ computed.1 m))

pub rises_still : (groups : GroupsOf) (priorities : List ℤ) (host : ℕ) (all order : List GroupNo) → IsInOrder groups priorities all → order ≡ with_host groups host all → IsInOrder groups priorities order
rises_still groups priorities host all order rises is = rw is (IsStrictlySortedBy-filter (merge_cmp groups priorities) (λ g. has_member groups g.0 host) all rises)

-- those whose sets have the host
pub having_is : (groups : GroupsOf) (depths : List ℕ) (planes : List (List Bool)) (host : ℕ) (order : List GroupNo) → AreDepths groups.links groups.groups depths
    → AreFilled groups.links groups.own groups.groups groups.hosts planes → has_host planes host order ≡ with_host groups host order
having_is groups depths planes host [] falls filled = refl
having_is groups depths planes host (g ∷ gs) falls filled =
    rw (plane_is groups.links groups.own groups.groups groups.hosts depths planes falls filled g.0 host, having_is groups depths planes host gs falls filled)

-- the same of a value of `Groups`
abbrev pub seen : ℕ → List OwnHost → List ChildLink → List ℕ → GroupsOf
seen hosts own links depths = record { hosts = hosts; groups = length depths; own = own; links = links }

pub kept_order : (hosts : ℕ) (own : List OwnHost) (links : List ChildLink) (depths : List ℕ) (members : List (List Bool)) (groups : GroupsOf) (priorities : List ℤ) (keys : List MergeKey) (order : List GroupNo)
    → IsKept hosts own links depths members → seen hosts own links depths ≡ groups → keys ≡ keys_to depths priorities (length depths) → order ≡ map (λ k. group_no k.group) keys → order ≡ in_order groups priorities
kept_order hosts own links depths members groups priorities keys order kept is k o =
    order_is (seen hosts own links depths) priorities depths (length depths) keys order kept.4 refl k o ∙ ap (λ g. in_order g priorities) is

pub kept_rises : (hosts : ℕ) (own : List OwnHost) (links : List ChildLink) (depths : List ℕ) (members : List (List Bool)) (priorities : List ℤ) (keys : List MergeKey) (order : List GroupNo) → IsKept hosts own links depths members
    → keys ≡ keys_to depths priorities (length depths) → order ≡ map (λ k. group_no k.group) keys → IsStrictlySortedBy key_cmp keys → IsInOrder (seen hosts own links depths) priorities order
kept_rises hosts own links depths members priorities keys order kept k o h = order_rises (seen hosts own links depths) priorities depths (length depths) keys order kept.4 refl k o h

pub kept_having : (hosts : ℕ) (own : List OwnHost) (links : List ChildLink) (depths : List ℕ) (members : List (List Bool)) (host : ℕ) (order : List GroupNo) → IsKept hosts own links depths members
    → has_host members host order ≡ with_host (seen hosts own links depths) host order
kept_having hosts own links depths members host order kept = having_is (seen hosts own links depths) depths members host order kept.4 kept.5

pub kept_exactly : (hosts : ℕ) (own : List OwnHost) (links : List ChildLink) (depths : List ℕ) (members : List (List Bool)) (groups : GroupsOf) (priorities : List ℤ) (host : ℕ) (order : List GroupNo) → IsKept hosts own links depths members
    → seen hosts own links depths ≡ groups → order ≡ merge_order groups priorities host → AreGroupsOf groups host order
kept_exactly hosts own links depths members groups priorities host order kept is o =
    let there = groups_exactly (seen hosts own links depths) priorities depths host order kept.4 kept.3 kept.2 (o ∙ ap (λ g. merge_order g priorities host) (sym is)) in
    subst (λ g. AreGroupsOf g host order) is there
