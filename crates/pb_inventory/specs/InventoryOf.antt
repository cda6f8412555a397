-- What contracts see of an inventory.
use Rattle.std.specs.Prelude.{ℕ, List}
use Rattle.pb_value.specs.Datum.{Datum}
use Rattle.pb_groups.specs.declared.links.ChildLink.{ChildLink}
use Rattle.pb_groups.specs.declared.links.OwnHost.{OwnHost}
use Rattle.pb_inventory.specs.declared.vars.GroupVars.{GroupVars}

-- the hosts' names and the groups' names, in the order of their numbers, each group's own hosts, and which groups are children of which;
-- and what stands under names of groups, and under names in `_meta`: variables
pub record InventoryOf : Type 0 where
  pub hosts : List (List ℕ)
  pub groups : List (List ℕ)
  pub own : List OwnHost
  pub links : List ChildLink
  pub group_vars : List (List ℕ × GroupVars)
  pub host_vars : List (List ℕ × List (List ℕ × Datum))
