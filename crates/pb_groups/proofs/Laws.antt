-- What depths and filled sets say of ways.
use Rattle.std.proofs.Common.{◌≡◌, ◌≢◌, ◌<◌, ◌≤◌, ◌+◌, ℕ, zero, suc, Bool, true, List, inl, inr, length, get_or, [], arith, ap, sym, ◌∙◌}
use Rattle.std.proofs.lemmas.Bool.{cases_eq}
use Rattle.std.proofs.lemmas.List.{get_or_default}
use Rattle.std.specs.Prelude.{slice_index, ◌↔◌}
use Rattle.pb_planes.specs.Set.{is_in}
use Rattle.pb_groups.specs.declared.links.ChildLink.{ChildLink}
use Rattle.pb_groups.specs.declared.links.OwnHost.{OwnHost}
use Rattle.pb_groups.specs.Ways.{Way, IsChild, AreLinksBelow}
use Rattle.pb_groups.specs.Depths.{AreDepths, IsEndless}
use Rattle.pb_groups.specs.Members.{IsMember, plane_at}
use Rattle.pb_groups.specs.Planes.{AreFilled}
use Rattle.pb_groups.proofs.Filling.{way_from_parent}

step_down : (links : List ChildLink) (limit : ℕ) (depths : List ℕ) (parent child : ℕ) → AreDepths links limit depths → IsChild links parent child → slice_index depths parent < slice_index depths child
step_down links limit depths parent child falls is =
    omega (arith, falls.2 is.0 is.1, ap (λ g. slice_index depths g) is.2, ap (λ g. slice_index depths g) is.3)

-- a way of so many steps leads that much deeper
pub way_down : (links : List ChildLink) (limit : ℕ) (depths : List ℕ) → AreDepths links limit depths → (steps from to : ℕ) → Way links steps from to → slice_index depths from + steps ≤ slice_index depths to
way_down links limit depths falls zero from to way = omega (arith, ap (λ g. slice_index depths g) way)
way_down links limit depths falls (suc steps) from to way =
    omega (arith, way_down links limit depths falls steps from way.0 way.1, step_down links limit depths way.0 to falls way.2)

pub no_way_back : (links : List ChildLink) (limit : ℕ) (depths : List ℕ) → AreDepths links limit depths → (steps group : ℕ) → Way links (suc steps) group group → ⊥
no_way_back links limit depths falls steps group way = omega (arith, way_down links limit depths falls (suc steps) group group way)

pub not_endless : (links : List ChildLink) (limit : ℕ) (depths : List ℕ) → AreDepths links limit depths → IsEndless links limit → ⊥
not_endless links limit depths falls endless = omega (arith, way_down links limit depths falls limit endless.0 endless.1 endless.2, falls.0 endless.1)

pub longest_way : (links : List ChildLink) (limit : ℕ) (depths : List ℕ) → AreDepths links limit depths → (to steps from : ℕ) → Way links steps from to → steps ≤ slice_index depths to
longest_way links limit depths falls to steps from way = omega (arith, way_down links limit depths falls steps from to way)

pub way_below : (links : List ChildLink) (groups : ℕ) → AreLinksBelow links groups → (steps from to : ℕ) → to < groups → Way links steps from to → from < groups
way_below links groups within zero from to w way = omega (arith, w, way)
way_below links groups within (suc steps) from to w way =
    way_below links groups within steps from way.0 (omega (arith, (within way.2.0 way.2.1).0, way.2.2)) way.1

from_at : (links : List ChildLink) (steps from top to : ℕ) → from ≡ top → Way links steps from to → Way links steps top to
from_at links steps from top to is way = rw (← is) way

too_long : (links : List ChildLink) (limit : ℕ) (depths : List ℕ) → AreDepths links limit depths → (to from : ℕ) → Way links (suc (slice_index depths to)) from to → ⊥
too_long links limit depths falls to from way = omega (arith, longest_way links limit depths falls to (suc (slice_index depths to)) from way)

-- where each group but one is a child, the longest way comes from that one
pub way_from_top : (links : List ChildLink) (groups : ℕ) (depths : List ℕ) → AreLinksBelow links groups → AreDepths links groups depths → (to top : ℕ) → to < groups
    → ((g : ℕ) → g < groups → g ≢ top → (parent : ℕ) × IsChild links parent g) → Way links (slice_index depths to) top to
way_from_top links groups depths within falls to top w parents =
    let longest = falls.1 to (slice_index depths to) (omega arith) in
    elim (cases_eq longest.0 top) [
      | inl is ↦ from_at links (slice_index depths to) longest.0 top to is longest.1
      | inr other ↦
          let above = parents longest.0 (way_below links groups within (slice_index depths to) longest.0 to w longest.1) other in
          absurd (too_long links groups depths falls to above.0 (way_from_parent links (slice_index depths to) above.0 longest.0 to above.1 longest.1))
    ]

-- a host of a set is in the sets of the groups above
climb : (links : List ChildLink) (own : List OwnHost) (groups hosts : ℕ) (planes : List (List Bool)) → AreFilled links own groups hosts planes → (steps from to host : ℕ) → Way links steps from to
    → is_in (plane_at planes to) host ≡ true → is_in (plane_at planes from) host ≡ true
climb links own groups hosts planes filled zero from to host way i = ap (λ g. is_in (plane_at planes g) host) way ∙ i
climb links own groups hosts planes filled (suc steps) from to host way i =
    climb links own groups hosts planes filled steps from way.0 host way.1
    (sym (ap (λ g. is_in (plane_at planes g) host) way.2.2) ∙ filled.3 way.2.0 way.2.1 host (ap (λ g. is_in (plane_at planes g) host) way.2.3 ∙ i))

own_at : (planes : List (List Bool)) (g h group host : ℕ) → g ≡ group → h ≡ host → is_in (plane_at planes g) h ≡ true → is_in (plane_at planes group) host ≡ true
own_at planes g h group host is at i = rw (← is, ← at) i

has_own : (links : List ChildLink) (own : List OwnHost) (groups hosts : ℕ) (planes : List (List Bool)) → AreFilled links own groups hosts planes → (group host : ℕ) → IsMember links own group host
    → is_in (plane_at planes group) host ≡ true
has_own links own groups hosts planes filled group host member =
    let at = member.3 in
    climb links own groups hosts planes filled member.0 group member.1 host member.2 (own_at planes _ _ member.1 host at.2 at.3 (filled.2 at.0 at.1))

pub members_exactly : (links : List ChildLink) (own : List OwnHost) (groups hosts : ℕ) (planes : List (List Bool)) → AreFilled links own groups hosts planes → (group host : ℕ)
    → (is_in (plane_at planes group) host ≡ true) ↔ IsMember links own group host
members_exactly links own groups hosts planes filled group host = (filled.1 group host, has_own links own groups hosts planes filled group host)

-- what is read of a list at a place within it
pub read_depth : (depths : List ℕ) (at result : ℕ) → at < length depths → result ≡ get_or depths at result → result ≡ slice_index depths at
read_depth depths at result w is = is ∙ get_or_default depths at result 0 w

pub read_plane : (planes : List (List Bool)) (at : ℕ) (result : List Bool) → at < length planes → result ≡ get_or planes at result → result ≡ plane_at planes at
read_plane planes at result w is = is ∙ get_or_default planes at result [] w
