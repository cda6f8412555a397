-- The hosts that items are delegated to, and whose facts theirs are (Ansible's documentation, "Controlling where tasks run", "Delegating tasks" and
-- "Delegating facts").
use Rattle.std.specs.Prelude.{ℕ, ◌==◌, Bool, true, false, List, Option, Some, None, position, filter, option_and_then, if◌then◌else◌}
use Rattle.std.specs.Option.{option_map_or}
use Rattle.std.specs.Str.{bytes_eq}
use Rattle.pb_ids.specs.declared.numbers.HostNo.{HostNo}
use Rattle.pb_inventory.specs.InventoryOf.{InventoryOf}
use Rattle.pb_outcome.specs.declared.item.Item.{Item}

abbrev pub host_number : HostNo → ℕ
host_number host = host.0

-- a host by its name
abbrev pub host_named : InventoryOf → List ℕ → Option ℕ
host_named inventory name = position (bytes_eq name) inventory.hosts

-- the host that an item is delegated to: none where it isn't delegated, or to a name that is no host's
abbrev pub delegate_of : InventoryOf → Item → Option ℕ
delegate_of inventory item = option_and_then (host_named inventory) item.delegate

-- The facts of an item are those of the host that started it, unless it is delegated to another name than that host's. They are no facts of a host that
-- gets what another one did for all, wherever the item is delegated to.
abbrev pub is_host : ℕ → Option ℕ → Bool
is_host host (Some h) = h == host
is_host host None = false

-- whether this is the name of the host that started the item; without a starter no name is
abbrev pub is_own_name : InventoryOf → (starter : Option ℕ) → List ℕ → Bool
is_own_name inventory (Some host) name = is_host host (host_named inventory name)
is_own_name inventory None name = false

-- an item that isn't delegated, or to the host that started it
abbrev pub stays : InventoryOf → Option ℕ → Item → Bool
stays inventory starter item = option_map_or (is_own_name inventory starter) item.delegate true

-- the items whose facts stay with the host that started them, or go to one that gets what it did: all of them where facts aren't delegated
abbrev pub kept : InventoryOf → Option ℕ → (delegates : Bool) → List Item → List Item
kept inventory starter true items = filter (stays inventory starter) items
kept inventory starter false items = items
