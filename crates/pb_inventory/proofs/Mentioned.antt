-- An inventory has exactly the groups that its file mentions.
use Rattle.std.proofs.Common.{◌≡◌, ◌↔◌, ℕ, Bool, true, false, List, ◌∷◌, length, Option, Some, None, Result, Ok, Err, IfOk, IfErr, refl, ap, sym, ◌∙◌, if◌then◌else◌, arith}
use Rattle.std.specs.List.{Contains, list_any}
use Rattle.std.specs.Str.{bytes_eq}
use Rattle.std.specs.Prelude.{nat_le}
use Rattle.std.proofs.lemmas.Cmp.{nat_list_eq_equiv}
use Rattle.std.proofs.lemmas.Map.Views.{list_any-from_Contains, Contains-from_any}
use Rattle.std.proofs.lemmas.Slice.Eq.{bytes_eq-Decides}
use Rattle.serde_json.specs.Data as json
use Rattle.pb_value.specs.Bytes.{json_in}
use Rattle.pb_value.specs.Reading.{and_then, map_ok}
use Rattle.pb_inventory.specs.Graph.{all, ungrouped, mentioned_groups, group_names, host_names, links_of, has_cycle, max_groups}
use Rattle.pb_inventory.specs.GraphOf.{GraphOf}
use Rattle.pb_inventory.specs.InventoryOf.{InventoryOf}
use Rattle.pb_inventory.specs.Mentioned.{said, IsMentioned, AreGroupsIn}
use Rattle.pb_inventory.specs.Reading.{file_in, graph_in, limited, of_json, inventory_of, max_hosts, with_vars}
use Rattle.pb_inventory.specs.declared.listed.FileEntries.{FileEntries}
use Rattle.pb_inventory.specs.declared.fault.InvFault.{InvFault}
use Rattle.pb_inventory.specs.declared.fault.InvFault.TheVariants.{Cycle, TooManyHosts, TooManyGroups}
use Rattle.pb_inventory.proofs.InByteOrder.{in_byte_order-rises, in_byte_order-has}

-- an inventory stands only where no limit is passed and there is no cycle
of_tests : (few_groups few_hosts cycle : Bool) (graph : GraphOf) (make : GraphOf → InventoryOf) (i : InventoryOf)
    → map_ok make (if few_groups then (if few_hosts then (if cycle then Err Cycle else Ok graph) else Err TooManyHosts) else Err TooManyGroups) ≡ Ok i → make graph ≡ i
of_tests true true true graph make i e = grind (arith, e)
of_tests true true false graph make i e = grind (arith, e)
of_tests true false c graph make i e = grind (arith, e)
of_tests false h c graph make i e = grind (arith, e)

groups_limited : (file : FileEntries) (i : InventoryOf) → limited file ≡ Ok i → i.groups ≡ group_names file.groups
groups_limited file i e =
    ap (λ i. i.groups) (sym (of_tests (nat_le (length (group_names file.groups)) max_groups) (nat_le (length (host_names file.groups)) max_hosts) (has_cycle (links_of (group_names file.groups) file.groups) (length (group_names file.groups))) _
    (λ graph. with_vars graph file.group_vars file.host_vars) i e))

-- the file of an inventory
file_behind : (d : json.Data) (r : Result FileEntries InvFault) (i : InventoryOf) → file_in d ≡ r → and_then r limited ≡ Ok i → (file : FileEntries) × (file_in d ≡ Ok file) × (limited file ≡ Ok i)
file_behind d (Ok file) i is e = (file, is, e)
file_behind d (Err x) i is e = grind (arith, e)

said_behind : (d : Option json.Data) (i : InventoryOf) → of_json d ≡ Ok i → (file : FileEntries) × (said d ≡ Ok file) × (limited file ≡ Ok i)
said_behind None i e = grind (arith, e)
said_behind (Some d) i e = file_behind d (file_in d) i refl e

same_file : (a b : FileEntries) (r : Result FileEntries InvFault) → r ≡ Ok a → r ≡ Ok b → a ≡ b
same_file a b r x y = grind (arith, sym x ∙ y)

found_name : (name : List ℕ) (names mentioned : List (List ℕ)) → list_any (bytes_eq name) names ≡ list_any (bytes_eq name) mentioned → Contains names name → Contains mentioned name
found_name name names mentioned same has = Contains-from_any (λ x y e. (bytes_eq-Decides x y).0 e) name mentioned (sym same ∙ list_any-from_Contains nat_list_eq_equiv name names has)

groups_of_file : (bytes : List ℕ) (names : List (List ℕ)) (file : FileEntries) → said (json_in bytes) ≡ Ok file → names ≡ group_names file.groups → AreGroupsIn bytes names
groups_of_file bytes names file is same = rw same (
  in_byte_order-rises (all ∷ ungrouped ∷ mentioned_groups file.groups),
  λ name. (
    λ has. (file, is, found_name name (group_names file.groups) (all ∷ ungrouped ∷ mentioned_groups file.groups) (in_byte_order-has name (all ∷ ungrouped ∷ mentioned_groups file.groups)) has),
    λ mentioned. let one = same_file mentioned.0 file (said (json_in bytes)) mentioned.1 is in
        found_name name (all ∷ ungrouped ∷ mentioned_groups file.groups) (group_names file.groups) (sym (in_byte_order-has name (all ∷ ungrouped ∷ mentioned_groups file.groups))) (rw one at mentioned.2),
  ),
)

pub groups_exactly : (bytes : List ℕ) (i : InventoryOf) → inventory_of bytes ≡ Ok i → AreGroupsIn bytes i.groups
unfolding inventory_of
groups_exactly bytes i e = let behind = said_behind (json_in bytes) i e in groups_of_file bytes i.groups behind.0 behind.1 (groups_limited behind.0 i behind.2)
