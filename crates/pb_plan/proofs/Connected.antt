-- The connector of a host, from its own variables and from those of its groups.
use Rattle.std.proofs.Common.{◌≡◌, ◌∙◌, ℕ, List, codes, refl}
use Rattle.pb_layers.specs.Scope.{Map}
use Rattle.pb_value.specs.Datum.{value_at}
use Rattle.pb_inventory.specs.InventoryOf.{InventoryOf}
use Rattle.pb_inventory.specs.Vars.{groups_of_host, last_given, vars_of_host}
use Rattle.pb_variables.specs.Connector.{connector_in, connector_of}

pub connected : (inventory : InventoryOf) (host : ℕ) (own groups : Map) (words : List (List ℕ)) → own ≡ vars_of_host inventory host
    → value_at (codes "pb_connector") groups ≡ last_given inventory (codes "pb_connector") (groups_of_host inventory host) → words ≡ connector_in own groups → words ≡ connector_of inventory host
connected inventory host own groups words o g is = is ∙ rw (o, g) refl
