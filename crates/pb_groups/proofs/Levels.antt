-- Depths before any group is raised, and after as many rounds as there are groups.
use Rattle.std.proofs.Common.{◌≡◌, ◌<◌, ◌≤◌, ℕ, zero, suc, inl, inr, List, length, replicate, arith, refl}
use Rattle.std.proofs.lemmas.List.{get_or-replicate, length-replicate}
use Rattle.std.proofs.Math.ListN.{get_or-eq_default}
use Rattle.std.proofs.lemmas.Bool.{cases_lt}
use Rattle.std.specs.Prelude.{slice_index}
use Rattle.pb_groups.specs.declared.links.ChildLink.{ChildLink}
use Rattle.pb_groups.specs.Ways.{Way}
use Rattle.pb_groups.specs.Depths.{IsLevel, IsEndless, AreReached}

zero_at : (n g : ℕ) → slice_index (replicate n 0) g ≡ 0
zero_at n g = elim (cases_lt g n) [ inl w ↦ get_or-replicate n g 0 0 w | inr w ↦ get_or-eq_default (replicate n 0) 0 (omega (arith, w, length-replicate {A = ℕ} n 0)) ]

reached_at_once : (links : List ChildLink) (g steps : ℕ) → steps ≤ 0 → (from : ℕ) × Way links steps from g
reached_at_once links g zero h = (g, refl)
reached_at_once links g (suc steps) h = absurd (omega (arith, h))

level_of_zeros : (links : List ChildLink) (depths : List ℕ) → ((g : ℕ) → slice_index depths g ≡ 0) → IsLevel links 0 depths
level_of_zeros links depths zeros = (
  (λ g. omega (arith, zeros g)),
  (λ g steps h. reached_at_once links g steps (omega (arith, h, zeros g))),
  (λ k w h. omega (arith, h)),
  (λ k w h. omega arith),
)

pub level_begun : (links : List ChildLink) (n : ℕ) (depths : List ℕ) → depths ≡ replicate n 0 → (length depths ≡ n) × IsLevel links 0 depths × (0 < 0 → (g : ℕ) × (slice_index depths g ≡ 0))
level_begun links n depths is = (rw is (length-replicate n 0), level_of_zeros links depths (λ g. rw is (zero_at n g)), λ h. absurd (omega (arith, h)))

pub endless_at_last : (links : List ChildLink) (groups depth : ℕ) (depths : List ℕ) → groups ≤ depth → AreReached links depths → (g : ℕ) × (slice_index depths g ≡ depth) → IsEndless links groups
endless_at_last links groups depth depths enough reached deepest =
    let way = reached deepest.0 groups (omega (arith, enough, deepest.1)) in (way.0, deepest.0, way.1)
