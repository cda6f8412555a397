-- The sets of the groups of one depth are joined with those of their children.
use Rattle.std.proofs.Common.{◌≡◌, ◌≢◌, ◌<◌, ◌≤◌, ◌+◌, ℕ, zero, suc, Bool, List, inl, inr, length, arith, refl, ap, sym, ◌∙◌}
use Rattle.std.proofs.lemmas.Bool.{cases_lt}
use Rattle.std.specs.Prelude.{slice_index}
use Rattle.pb_groups.specs.declared.links.ChildLink.{ChildLink}
use Rattle.pb_groups.specs.declared.links.OwnHost.{OwnHost}
use Rattle.pb_groups.specs.Ways.{Way, IsChild, AreLinksBelow, parent_at, child_at}
use Rattle.pb_groups.specs.Depths.{AreDepths}
use Rattle.pb_groups.specs.Members.{IsMember, ArePlanes, AreSound, HaveOwn, Holds, plane_at}
use Rattle.pb_groups.specs.Planes.{AreFilledFrom}
use Rattle.pb_groups.proofs.Sets.{joined, joined_back, joined_stays, holds_kept, holds_new, widths_kept}
use Rattle.std.proofs.lemmas.Simd.{length-zip2}

-- a way that begins with a step to a child
pub way_from_parent : (links : List ChildLink) (steps parent child last : ℕ) → IsChild links parent child → Way links steps child last → Way links (suc steps) parent last
way_from_parent links zero parent child last is way = (parent, refl, (is.0, is.1, is.2, is.3 ∙ way))
way_from_parent links (suc steps) parent child last is way = (way.0, way_from_parent links steps parent child way.0 is way.1, way.2)

pub member_of_child : (links : List ChildLink) (own : List OwnHost) (parent child host : ℕ) → IsChild links parent child → IsMember links own child host → IsMember links own parent host
member_of_child links own parent child host is member = (suc member.0, member.1, way_from_parent links member.0 parent child member.1 is member.2, member.3)

-- what is known while the first `done` links were looked at
abbrev pub Filling : List ChildLink → List OwnHost → List ℕ → ℕ → ℕ → ℕ → List (List Bool) → Type 0
Filling links own depths hosts depth done planes =
    ArePlanes (length depths) hosts planes
    × AreSound links own planes
    × HaveOwn own (length own) planes
    × ((k : ℕ) → k < length links → suc depth ≤ slice_index depths (parent_at links k) → Holds planes (parent_at links k) (child_at links k))
    × ((k : ℕ) → k < done → slice_index depths (parent_at links k) ≡ depth → Holds planes (parent_at links k) (child_at links k))

pub filling_begun : (links : List ChildLink) (own : List OwnHost) (depths : List ℕ) (hosts depth : ℕ) (planes : List (List Bool))
    → AreFilledFrom links own depths hosts (depth + 1) planes → Filling links own depths hosts depth 0 planes
filling_begun links own depths hosts depth planes filled =
    (filled.0, filled.1, filled.2, (λ k w h. filled.3 k w (omega (arith, h))), (λ k w. absurd (omega (arith, w))))

pub filling_done : (links : List ChildLink) (own : List OwnHost) (depths : List ℕ) (hosts depth done : ℕ) (planes : List (List Bool)) → length links ≤ done
    → Filling links own depths hosts depth done planes → AreFilledFrom links own depths hosts depth planes
filling_done links own depths hosts depth done planes all filling = (
  filling.0,
  filling.1,
  filling.2,
  (λ k w h. elim (cases_lt depth (slice_index depths (parent_at links k))) [
    | inl deeper ↦ filling.3 k w deeper
    | inr here ↦ filling.4 k (omega (arith, w, all)) (omega (arith, here, h))
  ]),
)

-- a link from a group of another depth
pub filling_passes : (links : List ChildLink) (own : List OwnHost) (depths : List ℕ) (hosts depth done : ℕ) (planes : List (List Bool))
    → slice_index depths (parent_at links done) ≢ depth
    → Filling links own depths hosts depth done planes → Filling links own depths hosts depth (done + 1) planes
filling_passes links own depths hosts depth done planes apart filling = (
  filling.0,
  filling.1,
  filling.2,
  filling.3,
  (λ k w e. elim (cases_lt k done) [
    | inl before ↦ filling.4 k before e
    | inr last ↦ absurd (apart (sym (ap (λ k. slice_index depths (parent_at links k)) (omega (arith, w, last))) ∙ e))
  ]),
)

not_itself : (depths : List ℕ) (a b : ℕ) → slice_index depths a < slice_index depths b → b ≢ a
not_itself depths a b less is = absurd (omega (arith, less, ap (λ g. slice_index depths g) is))

holds_at : (links : List ChildLink) (planes : List (List Bool)) (to from done k : ℕ) → k ≡ done → parent_at links done ≡ to → child_at links done ≡ from
    → Holds (joined planes to from) to from → Holds (joined planes to from) (parent_at links k) (child_at links k)
holds_at links planes to from done k is p c holds = rw (is, p, c) holds

-- and one from a group of this depth
pub filling_joins : (links : List ChildLink) (own : List OwnHost) (depths : List ℕ) (hosts depth done : ℕ) (planes : List (List Bool)) → done < length links
    → AreLinksBelow links (length depths) → AreDepths links (length depths) depths → slice_index depths (parent_at links done) ≡ depth
    → Filling links own depths hosts depth done planes → Filling links own depths hosts depth (done + 1) (joined planes (parent_at links done) (child_at links done))
filling_joins links own depths hosts depth done planes w within falls here filling =
    let to = parent_at links done in
    let from = child_at links done in
    let v : to < length planes = omega (arith, (within done w).0, filling.0.0) in
    let even : length (plane_at planes to) ≡ length (plane_at planes from) = filling.0.1 to (within done w).0 ∙ sym (filling.0.1 from (within done w).1) in (
      widths_kept (length depths) hosts planes to _ (within done w).0 (length-zip2 _ _ _ even ∙ filling.0.1 to (within done w).0) filling.0,
      (λ g h i. elim (joined_back planes to from g h v even i) [
        | inl old ↦ filling.1 g h old
        | inr new ↦ member_of_child links own g from h (done, w, sym new.0, refl) (filling.1 from h new.1)
      ]),
      (λ k u. joined_stays planes to from _ _ v even (filling.2 k u)),
      (λ k u deep. holds_kept planes to from _ _ v even (not_itself depths to (child_at links k) (omega (arith, falls.2 k u, deep, here))) (filling.3 k u deep)),
      (λ k u e. elim (cases_lt k done) [
        | inl before ↦ holds_kept planes to from _ _ v even (not_itself depths to (child_at links k) (omega (arith, falls.2 k (omega (arith, before, w)), e, here))) (filling.4 k before e)
        | inr last ↦ holds_at links planes to from done k (omega (arith, u, last)) refl refl (holds_new planes to from v even (not_itself depths to from (falls.2 done w)))
      ]),
    )
