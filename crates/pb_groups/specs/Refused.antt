-- Why groups are refused.
use Rattle.std.specs.Prelude.{◌<◌, ◌≤◌, ℕ, List}
use Rattle.pb_groups.specs.declared.fault.GroupFault.{GroupFault}
use Rattle.pb_groups.specs.declared.fault.GroupFault.TheVariants.{Cycle, TooMany, Memory}
use Rattle.pb_groups.specs.declared.links.ChildLink.{ChildLink}
use Rattle.pb_groups.specs.GroupsOf.{max_groups}
use Rattle.pb_groups.specs.Depths.{IsEndless, LeadsToItself}

-- what is so where groups with these links are refused with a fault
abbrev pub IsRefused : GroupFault → ℕ → List ChildLink → Type 0
IsRefused Cycle groups links = (groups ≤ max_groups) × IsEndless links groups × LeadsToItself links
IsRefused TooMany groups links = max_groups < groups
IsRefused Memory groups links = Unit {0}
