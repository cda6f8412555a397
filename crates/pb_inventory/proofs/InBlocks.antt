-- Of each 64 hosts the groups that have one of them.
use Rattle.std.proofs.Common.{◌≡◌, ◌≢◌, ◌<◌, ◌≤◌, ◌+◌, ◌*◌, ◌/◌, ◌%◌, ◌&&◌, ◌||◌, ◌++◌, ◌∷◌, [], ℕ, ℤ, zero, suc, Bool, true, false, cond, List, get_or, set, length, length-set, drop, arith, refl, ap, sym, inl, inr, ◌∙◌}
use Rattle.std.specs.Prelude.{filter, nat_lt, replicate, slice_index_or}
use Rattle.std.specs.List.{All}
use Rattle.std.proofs.Math.Seq.{drop-cons}
use Rattle.std.proofs.lemmas.Bool.{cases_lt, cases_eq, lt-ltb, le-ltb}
use Rattle.std.proofs.lemmas.List.{append-nil, append_assoc, drop_all, get_or_past, get_or-set_same, get_or-set_other}
use Rattle.std.proofs.lemmas.List.Elements.{All-filter}
use Rattle.std.proofs.lemmas.List.FromFn.{get_or-map-range_with_len}
use Rattle.pb_ids.specs.declared.numbers.GroupNo.{GroupNo}
use Rattle.pb_planes.specs.Set.{is_in, IsNextFrom, HasNoneFrom}
use Rattle.pb_groups.specs.GroupsOf.{GroupsOf}
use Rattle.pb_groups.specs.MemberSets.{belongs, members_of}
use Rattle.pb_groups.specs.Merging.{has_member, with_host, in_order, merge_order}
use Rattle.pb_groups.proofs.Ordered.{order_below}
use Rattle.pb_inventory.specs.ByBlock.{has_some_of, with_some, AreBlocks}
use Rattle.pb_inventory.specs.GraphOf.{GraphOf, numbered}

-- one that is there is found, and where none is, none is found
or_else : (b c : Bool) → c ≡ true → (b || c) ≡ true
or_else true c e = refl
or_else false c e = e

or_first : (b c : Bool) → b ≡ true → (b || c) ≡ true
or_first b c e = rw e refl

found : (hosts : List Bool) (first n past : ℕ) → past < n → is_in hosts (first + past) ≡ true → has_some_of hosts first n ≡ true
unfolding has_some_of
found hosts first zero past less is = absurd (let never : ⊥ = omega (arith, less) in never)
found hosts first (suc n) zero less is = or_first (is_in hosts first) (has_some_of hosts (suc first) n) (ap (is_in hosts) (omega arith) ∙ is)
found hosts first (suc n) (suc past) less is = or_else (is_in hosts first) (has_some_of hosts (suc first) n) (found hosts (suc first) n past (omega (arith, less)) (ap (is_in hosts) (omega arith) ∙ is))

not_found : (hosts : List Bool) (first n : ℕ) → ((i : ℕ) → first ≤ i → i < first + n → is_in hosts i ≡ false) → has_some_of hosts first n ≡ false
unfolding has_some_of
not_found hosts first zero none = refl
not_found hosts first (suc n) none = rw (none first (omega arith) (omega arith), not_found hosts (suc first) n (λ i low high. none i (omega (arith, low)) (omega (arith, high)))) refl

-- a host's groups are among those that have a host of its block
within_one : {X : Type 0} (p q : X → Bool) (x : X) (xs : List X) (b c : Bool) → p x ≡ b → q x ≡ c → (p x ≡ true → q x ≡ true) → filter p (filter q xs) ≡ filter p xs
    → filter p (cond c (x ∷ filter q xs) (filter q xs)) ≡ cond b (x ∷ filter p xs) (filter p xs)
within_one p q x xs true true pb qc within e = rw (pb, e) refl
within_one p q x xs true false pb qc within e = let both = within pb in cc
within_one p q x xs false true pb qc within e = rw (pb, e) refl
within_one p q x xs false false pb qc within e = e

within : {X : Type 0} (p q : X → Bool) (xs : List X) → ((x : X) → p x ≡ true → q x ≡ true) → filter p (filter q xs) ≡ filter p xs
within p q [] more = refl
within p q (x ∷ xs) more = within_one p q x xs (p x) (q x) refl refl (more x) (within p q xs more)

in_members : (groups : GroupsOf) (group host : ℕ) → host < groups.hosts → is_in (members_of groups group) host ≡ has_member groups group host
unfolding members_of
in_members groups group host less = get_or-map-range_with_len (belongs groups.links groups.own groups.groups group) 0 groups.hosts host host false less (omega arith)

pub block_has : (groups : GroupsOf) (host : ℕ) (order : List GroupNo) → host < groups.hosts → with_host groups host (with_some groups (host / 64) order) ≡ with_host groups host order
block_has groups host order less =
    within (λ g. has_member groups g.0 host) (λ g. has_some_of (members_of groups g.0) (64 * (host / 64)) 64) order
    (λ g is. found (members_of groups g.0) (64 * (host / 64)) 64 (host % 64) (omega arith) (ap (is_in (members_of groups g.0)) (omega arith) ∙ in_members groups g.0 host less ∙ is))

pub block_below : (groups : GroupsOf) (n block : ℕ) (order : List GroupNo) → All (λ g. g.0 < n) order → All (λ g. g.0 < n) (with_some groups block order)
block_below groups n block order below = All-filter (λ g. has_some_of (members_of groups g.0) (64 * block) 64) (λ g. g.0 < n) order below

-- the blocks up to one of them have the group, where it has a host of theirs
abbrev pub added_to : List Bool → ℕ → GroupNo → ℕ → List GroupNo
added_to members upto group k = cond (nat_lt k upto && has_some_of members (64 * k) 64) (group ∷ []) []

abbrev pub list_at : List (List GroupNo) → ℕ → List GroupNo
list_at blocks k = slice_index_or blocks k []

abbrev pub AreAdded : List Bool → ℕ → GroupNo → List (List GroupNo) → List (List GroupNo) → Type 0
AreAdded members upto group old blocks = (length blocks ≡ length old) × ((k : ℕ) → k < length old → list_at blocks k ≡ list_at old k ++ added_to members upto group k)

pub added_begun : (members : List Bool) (group : GroupNo) (old : List (List GroupNo)) → AreAdded members 0 group old old
added_begun members group old = (refl, λ k less. rw (le-ltb k 0 (omega arith)) (sym (append-nil (list_at old k))))

-- between two blocks the group has no host
none_between : (members : List Bool) (upto host k : ℕ) → IsNextFrom members (upto * 64) host → upto ≤ k → k < host / 64 → has_some_of members (64 * k) 64 ≡ false
none_between members upto host k next low high =
    not_found members (64 * k) 64 (λ i from before. next.2 i (omega (arith, low, from)) (omega (arith, high, before)))

none_behind : (members : List Bool) (upto k : ℕ) → HasNoneFrom members (upto * 64) → upto ≤ k → has_some_of members (64 * k) 64 ≡ false
none_behind members upto k none low = not_found members (64 * k) 64 (λ i from before. none i (omega (arith, low, from)))

some_there : (members : List Bool) (host : ℕ) → is_in members host ≡ true → has_some_of members (64 * (host / 64)) 64 ≡ true
some_there members host is = found members (64 * (host / 64)) 64 (host % 64) (omega arith) (ap (is_in members) (omega arith) ∙ is)

both_false : (a b c : Bool) → b ≡ false → (a && b) ≡ (c && b)
both_false true b true e = refl
both_false true b false e = e
both_false false b true e = sym e
both_false false b false e = refl

same_added : (members : List Bool) (upto host : ℕ) (group : GroupNo) (k : ℕ) → IsNextFrom members (upto * 64) host → k ≢ host / 64 → added_to members upto group k ≡ added_to members (host / 64 + 1) group k
same_added members upto host group k next apart = elim (cases_lt k upto) [
  | inl less ↦ rw (lt-ltb k upto less, lt-ltb k (host / 64 + 1) (omega (arith, less, next.0))) refl
  | inr more ↦ elim (cases_lt k (host / 64)) [
    | inl between ↦ ap (λ b. cond b (group ∷ []) []) (both_false (nat_lt k upto) _ (nat_lt k (host / 64 + 1)) (none_between members upto host k next more between))
    | inr past ↦ rw (le-ltb k upto more, le-ltb k (host / 64 + 1) (omega (arith, past, apart))) refl
  ]
]

pub added_step : (members : List Bool) (upto host next_upto : ℕ) (group : GroupNo) (old blocks new : List (List GroupNo)) → IsNextFrom members (upto * 64) host → host / 64 < length blocks → next_upto ≡ host / 64 + 1
    → new ≡ set blocks (host / 64) (list_at blocks (host / 64) ++ group ∷ []) → AreAdded members upto group old blocks → AreAdded members next_upto group old new
added_step members upto host next_upto group old blocks new next room is put added = (
  ap length put ∙ length-set _ _ _ ∙ added.0,
  λ k less. elim (cases_eq k (host / 64)) [
    | inl same ↦
        rw (
          is,
          put,
          same,
          get_or-set_same blocks (host / 64) (list_at blocks (host / 64) ++ group ∷ []) [] room,
          added.1 (host / 64) (omega (arith, less, same)),
          le-ltb (host / 64) upto (omega (arith, next.0)),
          lt-ltb (host / 64) (host / 64 + 1) (omega arith),
          some_there members host next.1,
          append-nil (list_at old (host / 64)),
        )
        refl
    | inr apart ↦
        rw (is, put, get_or-set_other blocks (host / 64) k (list_at blocks (host / 64) ++ group ∷ []) [] apart, sym (same_added members upto host group k next apart))
        (added.1 k less)
  ],
)

pub added_end : (members : List Bool) (upto : ℕ) (group : GroupNo) (old blocks : List (List GroupNo)) → HasNoneFrom members (upto * 64) → AreAdded members upto group old blocks
    → (k : ℕ) → k < length old → list_at blocks k ≡ list_at old k ++ cond (has_some_of members (64 * k) 64) (group ∷ []) []
added_end members upto group old blocks none added k less = elim (cases_lt k upto) [
  | inl low ↦ added.1 k less ∙ ap (λ b. list_at old k ++ cond (b && has_some_of members (64 * k) 64) (group ∷ []) []) (lt-ltb k upto low)
  | inr high ↦ added.1 k less ∙ rw (none_behind members upto k none high, le-ltb k upto high) refl
]

-- all groups are put into their blocks, one after another
abbrev pub AreLeft : GroupsOf → List GroupNo → ℕ → ℕ → List (List GroupNo) → Type 0
AreLeft groups order done n blocks = (length blocks ≡ n) × ((k : ℕ) → k < n → list_at blocks k ++ with_some groups k (drop done order) ≡ with_some groups k order)

at_replicate : (n k : ℕ) → list_at (replicate n []) k ≡ []
at_replicate zero k = refl
at_replicate (suc n) zero = refl
at_replicate (suc n) (suc k) = at_replicate n k

pub left_begun : (groups : GroupsOf) (order : List GroupNo) (n : ℕ) (blocks : List (List GroupNo)) → blocks ≡ replicate n [] → length blocks ≡ n → AreLeft groups order 0 n blocks
left_begun groups order n blocks is long = (long, λ k less. rw (is, at_replicate n k) refl)

put_before : (a rest : List GroupNo) (group : GroupNo) (b : Bool) → (a ++ cond b (group ∷ []) []) ++ rest ≡ a ++ cond b (group ∷ rest) rest
put_before a rest group true = append_assoc a (group ∷ []) rest
put_before a rest group false = ap (λ t. t ++ rest) (append-nil a)

pub left_step : (groups : GroupsOf) (order : List GroupNo) (done more n : ℕ) (group : GroupNo) (members : List Bool) (blocks new : List (List GroupNo)) → done < length order → get_or order done group ≡ group → more ≡ done + 1
    → members ≡ members_of groups group.0 → length new ≡ length blocks → ((k : ℕ) → k < length blocks → list_at new k ≡ list_at blocks k ++ cond (has_some_of members (64 * k) 64) (group ∷ []) [])
    → AreLeft groups order done n blocks → AreLeft groups order more n new
left_step groups order done more n group members blocks new less at is lent long added left = (
  long ∙ left.0,
  λ k inside.
      let b = has_some_of (members_of groups group.0) (64 * k) 64 in
      let behind : suc done ≡ more = omega (arith, is) in
      let next : drop done order ≡ group ∷ drop more order = drop-cons order done group less ∙ rw at (ap (λ n. group ∷ drop n order) behind) in
      ap (λ t. t ++ with_some groups k (drop more order)) (added k (omega (arith, inside, left.0)) ∙ ap (λ m. list_at blocks k ++ cond (has_some_of m (64 * k) 64) (group ∷ []) []) lent)
      ∙ put_before (list_at blocks k) (with_some groups k (drop more order)) group b ∙ ap (λ rest. list_at blocks k ++ with_some groups k rest) (sym next) ∙ left.1 k inside,
)

pub left_end : (groups : GroupsOf) (order : List GroupNo) (done n : ℕ) (blocks : List (List GroupNo)) → length order ≤ done → AreLeft groups order done n blocks → (k : ℕ) → k < length blocks → list_at blocks k ≡ with_some groups k order
left_end groups order done n blocks past left k less =
    let none : drop done order ≡ [] = drop_all done order past in
    sym (append-nil (list_at blocks k)) ∙ ap (λ rest. list_at blocks k ++ with_some groups k rest) (sym none) ∙ left.1 k (omega (arith, less, left.0))

pub in_below : (members : List Bool) (host : ℕ) → is_in members host ≡ true → host < length members
in_below members host is = elim (cases_lt host (length members)) [
  | inl less ↦ less
  | inr past ↦ let out = get_or_past members host false past in cc
]

-- a host's groups are asked for in its block alone
pub blocks_kept : (graph own : GraphOf) (priorities known : List ℤ) (order : List GroupNo) (blocks all : List (List GroupNo)) → AreBlocks (numbered graph) order blocks → order ≡ in_order (numbered graph) priorities → own ≡ graph → known ≡ priorities → all ≡ blocks
    → AreBlocks (numbered own) (in_order (numbered own) known) all
blocks_kept graph own priorities known order blocks all are is o k a = rw (a, o, k, ← is) are

its_block : (graph : GraphOf) (priorities : List ℤ) (host : ℕ) (blocks : List (List GroupNo)) (block : List GroupNo) → AreBlocks (numbered graph) (in_order (numbered graph) priorities) blocks → host < length graph.hosts → block ≡ list_at blocks (host / 64)
    → block ≡ with_some (numbered graph) (host / 64) (in_order (numbered graph) priorities)
its_block graph priorities host blocks block are less is = is ∙ are.1 (host / 64) (omega (arith, less, are.0))

pub asked_of_block : (graph : GraphOf) (priorities : List ℤ) (host : ℕ) (blocks : List (List GroupNo)) (block some : List GroupNo) → AreBlocks (numbered graph) (in_order (numbered graph) priorities) blocks → host < length graph.hosts → block ≡ list_at blocks (host / 64)
    → some ≡ with_host (numbered graph) host block → some ≡ merge_order (numbered graph) priorities host
asked_of_block graph priorities host blocks block some are less is asked =
    asked ∙ ap (with_host (numbered graph) host) (its_block graph priorities host blocks block are less is) ∙ block_has (numbered graph) host (in_order (numbered graph) priorities) less

pub groups_of_block : (graph : GraphOf) (priorities : List ℤ) (host : ℕ) (blocks : List (List GroupNo)) (block : List GroupNo) → AreBlocks (numbered graph) (in_order (numbered graph) priorities) blocks → host < length graph.hosts → block ≡ list_at blocks (host / 64)
    → All (λ g. g.0 < length graph.groups) block
groups_of_block graph priorities host blocks block are less is =
    rw (its_block graph priorities host blocks block are less is)
    (block_below (numbered graph) (length graph.groups) (host / 64) (in_order (numbered graph) priorities) (order_below (numbered graph) priorities (in_order (numbered graph) priorities) refl))

-- who is in a group's set passes, and who isn't doesn't
pub passes : (groups : GroupsOf) (group host : ℕ) (members : List Bool) → members ≡ members_of groups group → length members ≡ groups.hosts → is_in members host ≡ true → has_member groups group host ≡ true
passes groups group host members is long there =
    sym (in_members groups group host (omega (arith, in_below members host there, long))) ∙ ap (λ (hosts : List Bool). is_in hosts host) (sym is) ∙ there

pub passes_not : (groups : GroupsOf) (group host : ℕ) (members : List Bool) → members ≡ members_of groups group → host < groups.hosts → is_in members host ≡ false → has_member groups group host ≡ false
passes_not groups group host members is less there = sym (in_members groups group host less) ∙ ap (λ (hosts : List Bool). is_in hosts host) (sym is) ∙ there
