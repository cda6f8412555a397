-- Depth and membership as they are computed, beside ways from parent to child.
use Rattle.std.proofs.Common.{◌≡◌, ◌≤◌, ◌&&◌, ℕ, zero, suc, Bool, true, false, cond, List, arith, refl, ap, sym, ◌∙◌, eq-eqb}
use Rattle.std.specs.Prelude.{◌==◌, ◌↔◌, slice_index}
use Rattle.std.proofs.lemmas.Bool.{eqb-true}
use Rattle.std.proofs.lemmas.List.{get_or_default}
use Rattle.std.proofs.lemmas.List.Folds.{list_any_at, Any-from_list_any}
use Rattle.pb_planes.specs.Set.{is_in}
use Rattle.pb_groups.specs.declared.links.ChildLink.{ChildLink}
use Rattle.pb_groups.specs.declared.links.OwnHost.{OwnHost}
use Rattle.pb_groups.specs.Ways.{Way, link}
use Rattle.pb_groups.specs.Depths.{AreDepths}
use Rattle.pb_groups.specs.Members.{IsMember, plane_at}
use Rattle.pb_groups.specs.Planes.{AreFilled}
use Rattle.pb_groups.specs.Merging.{ends_way, longest}
use Rattle.pb_groups.specs.MemberSets.{belongs}
use Rattle.pb_groups.proofs.Laws.{longest_way, members_exactly}
use Rattle.pb_groups.proofs.MemberLaws.{member_from_belongs, belongs_from_member}

both : (a b : Bool) → a ≡ true → b ≡ true → (a && b) ≡ true
both a b e f = rw (e, f) refl

first_of_both : (a b : Bool) → (a && b) ≡ true → a ≡ true
first_of_both true b e = refl
first_of_both false b e = e

second_of_both : (a b : Bool) → (a && b) ≡ true → b ≡ true
second_of_both true b e = e
second_of_both false b e = grind arith

pub same_tests : (a b : Bool) → (a ≡ true → b ≡ true) → (b ≡ true → a ≡ true) → a ≡ b
same_tests true b there back = sym (there refl)
same_tests false true there back = back refl
same_tests false false there back = refl

-- a way is found at its end
ends : (links : List ChildLink) (steps from to : ℕ) → Way links steps from to → ends_way links steps to ≡ true
ends links zero from to way = refl
ends links (suc steps) from to way =
    let is = way.2 in
    list_any_at _ links is.0 (link 0 0) is.1 (both _ _ (eq-eqb _ _ is.3) (ap (ends_way links steps) is.2 ∙ ends links steps from way.0 way.1))

way_ended : (links : List ChildLink) (steps to : ℕ) → ends_way links steps to ≡ true → (from : ℕ) × Way links steps from to
way_ended links zero to e = (to, refl)
way_ended links (suc steps) to e =
    let any = Any-from_list_any (λ l. (l.child.0 == to) && ends_way links steps l.parent.0) links e in
    let before = way_ended links steps any.1.parent.0 (second_of_both _ _ any.4) in
    let at = get_or_default links any.0 (link 0 0) any.1 any.2 ∙ any.3 in
    (before.0, (any.1.parent.0, before.1, (any.0, any.2, ap (λ l. l.parent.0) at, ap (λ l. l.child.0) at ∙ eqb-true _ _ (first_of_both _ _ any.4))))

not_there : (links : List ChildLink) (n group d : ℕ) → ends_way links n group ≡ false → ends_way links d group ≡ true → d ≡ n → ⊥
not_there links n group d none some is = absurd (grind (arith, sym none ∙ ap (λ k. ends_way links k group) (sym is) ∙ some))

longest_step : (links : List ChildLink) (n group d : ℕ) (b : Bool) → ends_way links (suc n) group ≡ b → d ≤ suc n → ends_way links d group ≡ true → ((s : ℕ) → ends_way links s group ≡ true → s ≤ d)
    → (d ≤ n → longest links n group ≡ d) → cond b (suc n) (longest links n group) ≡ d
longest_step links n group d true e w some most rest = omega (arith, w, most (suc n) e)
longest_step links n group d false e w some most rest = rest (omega (arith, w, not_there links (suc n) group d e some))

longest_is : (links : List ChildLink) (n group d : ℕ) → d ≤ n → ends_way links d group ≡ true → ((s : ℕ) → ends_way links s group ≡ true → s ≤ d) → longest links n group ≡ d
longest_is links zero group d w some most = omega (arith, w)
longest_is links (suc n) group d w some most = longest_step links n group d (ends_way links (suc n) group) refl w some most (λ v. longest_is links n group d v some most)

-- the depth that is kept is the one that is computed
pub depth_is : (links : List ChildLink) (groups : ℕ) (depths : List ℕ) (group : ℕ) → AreDepths links groups depths → slice_index depths group ≡ longest links groups group
depth_is links groups depths group falls =
    let way = falls.1 group (slice_index depths group) (omega arith) in
    sym (longest_is links groups group (slice_index depths group) (omega (arith, falls.0 group)) (ends links (slice_index depths group) way.0 group way.1)
    (λ s e. let found = way_ended links s group e in longest_way links groups depths falls group s found.0 found.1))

-- membership as it is computed is membership
pub member_exactly : (links : List ChildLink) (own : List OwnHost) (groups : ℕ) (depths : List ℕ) → AreDepths links groups depths → (group host : ℕ) → (belongs links own groups group host ≡ true) ↔ IsMember links own group host
member_exactly links own groups depths falls group host = (
  member_from_belongs links own groups group host,
  belongs_from_member links own groups depths group host falls,
)

-- the sets have the members
pub plane_is : (links : List ChildLink) (own : List OwnHost) (groups hosts : ℕ) (depths : List ℕ) (planes : List (List Bool)) → AreDepths links groups depths → AreFilled links own groups hosts planes → (group host : ℕ)
    → is_in (plane_at planes group) host ≡ belongs links own groups group host
plane_is links own groups hosts depths planes falls filled group host =
    let computed = member_exactly links own groups depths falls group host in
    let kept = members_exactly links own groups hosts planes filled group host in
    same_tests _ _ (λ e. computed.1 (kept.0 e)) (λ e. kept.1 (computed.0 e))
