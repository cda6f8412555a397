use Rattle.std.proofs.Common.{◌≡◌, ◌<◌, ◌≤◌, ℕ, List, length, arith}
use Rattle.pb_groups.specs.declared.fault.GroupFault.TheVariants.{Cycle}
use Rattle.pb_groups.specs.declared.links.ChildLink.{ChildLink}
use Rattle.pb_groups.specs.Depths.{AreDepths, IsEndless}
use Rattle.pb_groups.specs.Refused.{IsRefused}
use Rattle.pb_groups.specs.Ways.{AreLinksBelow}
use Rattle.pb_groups.proofs.Rounds.{leads_to_itself}
use Rattle.pb_groups.proofs.Laws.{no_way_back, not_endless}
use Rattle.pb_groups.proofs.groups.Groups.new.Goals as goal

depths_of_links : (links seen : List ChildLink) (groups : ℕ) (depths : List ℕ) → seen ≡ links → (length depths ≡ groups) × AreDepths seen groups depths → AreDepths links (length depths) depths
depths_of_links links seen groups depths is found = rw (← is, found.0) found.1

seen_endless : (links seen : List ChildLink) (groups : ℕ) (depths : List ℕ) → seen ≡ links → (length depths ≡ groups) × AreDepths seen groups depths → IsEndless links groups → ⊥
seen_endless links seen groups depths is found = rw (← is) (not_endless seen groups depths found.1)

cycle_refused : (links seen : List ChildLink) (groups : ℕ) → seen ≡ links → 0 < groups → groups ≤ 4096 → AreLinksBelow links groups → IsEndless seen groups → IsRefused Cycle groups links
cycle_refused links seen groups is some few within endless = (few, rw (← is) endless, leads_to_itself links groups some within (rw (← is) endless))

pub returns-in-None-clause-fault : goal.returns-in-None-clause-fault
returns-in-None-clause-fault c =
    cycle_refused _ _ _ c.as_slice.ensures.value c.requires.some_group (omega (arith, c.if-groups-gt-MAX_GROUPS.false)) c.requires.links (rw c.in-None.is at c.in_ok-depths.ensures)

pub members_of-requires-clause-depths : goal.members_of-requires-clause-depths
members_of-requires-clause-depths c =
    rw (c.as_slice-in-Some.ensures.value, c.as_slice-in-Some-3.ensures.value) (depths_of_links _ _ _ _ c.as_slice.ensures.value (rw c.in-Some.is at c.in_ok-depths.ensures))

pub invariant_of-result : goal.invariant_of-result
invariant_of-result c =
    let found = rw c.in-Some.is at c.in_ok-depths.ensures in (
      omega (arith, found.0, c.requires.some_group),
      omega (arith, found.0, c.if-groups-gt-MAX_GROUPS.false),
      rw found.0 c.requires.own,
      rw found.0 c.requires.links,
      depths_of_links _ _ _ _ c.as_slice.ensures.value found,
      rw (c.as_slice-in-Some.ensures.value, c.as_slice-in-Some-2.ensures.value, c.as_slice-in-Some-3.ensures.value) at c.in_ok-members-in-Some.ensures,
    )

pub returns-in_ok-members-in-Some-clause-no_cycle : goal.returns-in_ok-members-in-Some-clause-no_cycle
returns-in_ok-members-in-Some-clause-no_cycle c = no_way_back _ _ _ (depths_of_links _ _ _ _ c.as_slice.ensures.value (rw c.in-Some.is at c.in_ok-depths.ensures))

pub returns-in_ok-members-in-Some-clause-not_endless : goal.returns-in_ok-members-in-Some-clause-not_endless
returns-in_ok-members-in-Some-clause-not_endless c = seen_endless _ _ _ _ c.as_slice.ensures.value (rw c.in-Some.is at c.in_ok-depths.ensures)
