-- The program that connects to a host, as a host's inventory variable `pb_connector` names it.
use Rattle.std.specs.Prelude.{ℕ, List, [], ◌∷◌, Option, Some, None, option_map, unwrap_or, codes}
use Rattle.std.specs.Option.{option_or, option_map_or}
use Rattle.pb_value.specs.Datum.{Datum, Items, no_items, item, text, list, value_at}
use Rattle.pb_inventory.specs.InventoryOf.{InventoryOf}
use Rattle.pb_inventory.specs.Vars.{groups_of_host, last_given, vars_of_host}

-- a value's text in front of further texts
abbrev pub text_before : Datum → Option (List (List ℕ)) → Option (List (List ℕ))
text_before (text s) others = option_map (λ texts. s ∷ texts) others
text_before d others = None

-- the texts of values that are all texts
abbrev pub texts_in : Items → Option (List (List ℕ))
texts_in no_items = Some []
texts_in (item d ds) = text_before d (texts_in ds)

-- the words of a list of texts; any other value has none
abbrev pub words_in : Datum → List (List ℕ)
words_in (list ds) = unwrap_or (texts_in ds) []
words_in d = []

-- what a host's variable is as it is stored: its own, or else that of the last of its groups that has it
abbrev pub stored : InventoryOf → ℕ → List ℕ → Option Datum
stored inventory host name = option_or (value_at name (vars_of_host inventory host)) (last_given inventory name (groups_of_host inventory host))

-- the words that connect to a host: none where it has none
abbrev pub connector_of : InventoryOf → ℕ → List (List ℕ)
connector_of inventory host = option_map_or words_in (stored inventory host (codes "pb_connector")) []

-- the same where a host has these variables of its own, and these from its groups
abbrev pub connector_in : (own groups : List (List ℕ × Datum)) → List (List ℕ)
connector_in own groups = option_map_or words_in (option_or (value_at (codes "pb_connector") own) (value_at (codes "pb_connector") groups)) []
