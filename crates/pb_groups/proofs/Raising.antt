-- The children of the groups of one depth are raised to the next.
use Rattle.std.proofs.Common.{◌≡◌, ◌<◌, ◌≤◌, ◌+◌, ℕ, zero, suc, Bool, true, false, List, length, set, arith, refl, sym, inl, inr}
use Rattle.std.proofs.lemmas.List.{get_or-set_same, get_or-set_other}
use Rattle.std.proofs.lemmas.Bool.{cases_lt}
use Rattle.std.specs.Prelude.{slice_index}
use Rattle.pb_groups.specs.declared.links.ChildLink.{ChildLink}
use Rattle.pb_groups.specs.Ways.{Way, parent_at, child_at}
use Rattle.pb_groups.specs.Depths.{IsLevel, AreReached}

-- what is known while the first `done` links were looked at
abbrev pub Raising : List ChildLink → ℕ → List ℕ → ℕ → Bool → Type 0
Raising links depth depths done raised =
    ((group : ℕ) → slice_index depths group ≤ depth + 1)
    × AreReached links depths
    × ((k : ℕ) → k < length links → slice_index depths (parent_at links k) < depth → slice_index depths (parent_at links k) < slice_index depths (child_at links k))
    × ((k : ℕ) → k < length links → depth ≤ slice_index depths (parent_at links k) → depth ≤ slice_index depths (child_at links k))
    × ((k : ℕ) → k < done → depth ≤ slice_index depths (parent_at links k) → depth < slice_index depths (child_at links k))
    × (raised ≡ true → (group : ℕ) × (slice_index depths group ≡ depth + 1))
    × (raised ≡ false → ((group : ℕ) → slice_index depths group ≤ depth) × ((k : ℕ) → k < done → slice_index depths (parent_at links k) < depth))

-- a number of the list after one of them was raised
raised_up : (depths : List ℕ) (c n g : ℕ) → c < length depths → slice_index depths c ≤ n → slice_index depths g ≤ slice_index (set depths c n) g
raised_up depths c n g w h = grind (arith, get_or-set_same, get_or-set_other)

raised_back : (depths : List ℕ) (c n g : ℕ) → c < length depths → n ≤ slice_index depths c → n ≤ slice_index (set depths c (n + 1)) g → n ≤ slice_index depths g
raised_back depths c n g w h i = grind (arith, get_or-set_same, get_or-set_other)

raised_low : (depths : List ℕ) (c n g : ℕ) → c < length depths → slice_index (set depths c (n + 1)) g ≤ n → slice_index (set depths c (n + 1)) g ≡ slice_index depths g
raised_low depths c n g w h = grind (arith, get_or-set_same, get_or-set_other)

raised_bound : (depths : List ℕ) (c n g : ℕ) → c < length depths → slice_index depths g ≤ n → slice_index (set depths c n) g ≤ n
raised_bound depths c n g w h = grind (arith, get_or-set_same, get_or-set_other)

true_is_not_false : (A : Type 0) → true ≡ false → A
true_is_not_false A e = grind arith

pub raising_begun : (links : List ChildLink) (depth : ℕ) (depths : List ℕ) → IsLevel links depth depths → Raising links depth depths 0 false
raising_begun links depth depths level = (
  (λ g. omega (arith, level.0 g)),
  level.1,
  level.2,
  level.3,
  (λ k w. omega arith),
  (λ e. grind arith),
  (λ e. (level.0, λ k w. omega arith)),
)

-- a link from a group that lies higher raises none
pub raising_passes : (links : List ChildLink) (depth : ℕ) (depths : List ℕ) (done : ℕ) (raised : Bool) → slice_index depths (parent_at links done) < depth
    → Raising links depth depths done raised → Raising links depth depths (done + 1) raised
raising_passes links depth depths done raised above r = (
  r.0,
  r.1,
  r.2,
  r.3,
  (λ k w h. grind (arith, r.4 k)),
  r.5,
  (λ e. ((r.6 e).0, λ k w. grind (arith, (r.6 e).1 k))),
)

reached_further : (links : List ChildLink) (depth : ℕ) (depths : List ℕ) (done : ℕ) → done < length links → AreReached links depths → depth ≤ slice_index depths (parent_at links done)
    → (g steps : ℕ) → steps ≤ depth + 1 → g ≡ child_at links done → (from : ℕ) × Way links steps from g
reached_further links depth depths done w reached deep g zero h is = (g, refl)
reached_further links depth depths done w reached deep g (suc steps) h is =
    let way = reached (parent_at links done) steps (omega (arith, h, deep)) in (way.0, (parent_at links done, way.1, (done, w, refl, sym is)))

raised_only : (depths : List ℕ) (c n g : ℕ) → c < length depths → slice_index depths g < slice_index (set depths c n) g → g ≡ c
raised_only depths c n g w h = grind (arith, get_or-set_same, get_or-set_other)

reached_raised : (links : List ChildLink) (depth : ℕ) (depths : List ℕ) (done : ℕ) → done < length links → child_at links done < length depths → AreReached links depths
    → ((g : ℕ) → slice_index depths g ≤ depth + 1) → depth ≤ slice_index depths (parent_at links done) → AreReached links (set depths (child_at links done) (depth + 1))
reached_raised links depth depths done w v reached bound deep g steps h = elim (cases_lt (slice_index depths g) steps) [
  | inl more ↦ reached_further links depth depths done w reached deep g steps (omega (arith, h, raised_bound depths (child_at links done) (depth + 1) g v (bound g)))
      (raised_only depths (child_at links done) (depth + 1) g v (omega (arith, h, more)))
  | inr as_before ↦ reached g steps as_before
]

below_raised : (links : List ChildLink) (depth : ℕ) (depths : List ℕ) (c k : ℕ) → c < length depths → slice_index depths c ≤ depth + 1
    → (slice_index depths (parent_at links k) < depth → slice_index depths (parent_at links k) < slice_index depths (child_at links k))
    → slice_index (set depths c (depth + 1)) (parent_at links k) < depth
    → slice_index (set depths c (depth + 1)) (parent_at links k) < slice_index (set depths c (depth + 1)) (child_at links k)
below_raised links depth depths c k v bound below h =
    let same = raised_low depths c depth (parent_at links k) v (omega (arith, h)) in
    let up = raised_up depths c (depth + 1) (child_at links k) v bound in
    rw same (omega (arith, below (omega (arith, h, same)), up))

at_raised : (links : List ChildLink) (depth : ℕ) (depths : List ℕ) (c k low : ℕ) → c < length depths → slice_index depths c ≤ depth + 1 → depth ≤ slice_index depths c
    → (depth ≤ slice_index depths (parent_at links k) → low ≤ slice_index depths (child_at links k))
    → depth ≤ slice_index (set depths c (depth + 1)) (parent_at links k) → low ≤ slice_index (set depths c (depth + 1)) (child_at links k)
at_raised links depth depths c k low v bound deep below h =
    omega (arith, below (raised_back depths c depth (parent_at links k) v deep h), raised_up depths c (depth + 1) (child_at links k) v bound)

raised_child : (links : List ChildLink) (depth : ℕ) (depths : List ℕ) (done k : ℕ) → child_at links done < length depths → k ≡ done
    → depth < slice_index (set depths (child_at links done) (depth + 1)) (child_at links k)
raised_child links depth depths done k v is = rw is (omega (arith, get_or-set_same depths (child_at links done) (depth + 1) 0 v))

-- and one from a group of this depth raises the child
pub raising_raises : (links : List ChildLink) (depth : ℕ) (depths : List ℕ) (done : ℕ) (raised : Bool) → done < length links → child_at links done < length depths
    → depth ≤ slice_index depths (parent_at links done)
    → Raising links depth depths done raised → Raising links depth (set depths (child_at links done) (depth + 1)) (done + 1) true
raising_raises links depth depths done raised w v deep r =
    let low = r.3 done w deep in
    let bound = r.0 (child_at links done) in (
      (λ g. raised_bound depths _ _ g v (r.0 g)),
      reached_raised links depth depths done w v r.1 r.0 deep,
      (λ k u. below_raised links depth depths _ k v bound (r.2 k u)),
      (λ k u. at_raised links depth depths _ k depth v bound low (r.3 k u)),
      (λ k u h. elim (cases_lt k done) [
        | inl before ↦ at_raised links depth depths _ k (suc depth) v bound low (r.4 k before) h
        | inr last ↦ raised_child links depth depths done k v (omega (arith, u, last))
      ]),
      (λ e. (child_at links done, get_or-set_same _ _ _ _ v)),
      (λ e. true_is_not_false _ e),
    )
