-- The members of an inventory's groups as sets.
use Rattle.std.specs.Prelude.{ℕ, Bool, List, length}
use Rattle.pb_groups.specs.MemberSets.{members_of}
use Rattle.pb_inventory.specs.InventoryOf.{InventoryOf}

-- of each host whether it belongs to the group
abbrev pub members_in : InventoryOf → ℕ → List Bool
members_in inventory group = members_of (record { hosts = length inventory.hosts; groups = length inventory.groups; own = inventory.own; links = inventory.links }) group
