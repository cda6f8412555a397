-- The hosts that a pattern means: those of some unmarked element, or all where there is none, which are in each element marked `&` and in none
-- marked `!`. The order of the elements says nothing.
use Rattle.std.specs.Prelude.{◌≡◌, ℕ, Bool, true, false, ◌&&◌, ◌||◌, not, List, [], ◌∷◌, map, filter, length}
use Rattle.std.specs.List.{list_any, list_all}
use Rattle.pb_planes.specs.Set.{is_in, has_some}
use Rattle.pb_inventory.specs.InventoryOf.{InventoryOf}
use Rattle.pb_patterns.specs.declared.element.Element.{Element}
use Rattle.pb_patterns.specs.declared.element.Mark.{Mark}
use Rattle.pb_patterns.specs.declared.element.Mark.TheVariants.{Unmarked, Met, Excluded}
use Rattle.pb_patterns.specs.declared.selected.Selected.{Selected}
use Rattle.pb_patterns.specs.Sets.{element_set, each_host}

-- an element's text and mark, and the hosts that it means
pub record Part : Type 0 where
  pub text : List ℕ
  pub mark : Mark
  pub set : List Bool

abbrev pub is_unmarked : Mark → Bool
is_unmarked Unmarked = true
is_unmarked Met = false
is_unmarked Excluded = false

abbrev pub is_met : Mark → Bool
is_met Unmarked = false
is_met Met = true
is_met Excluded = false

abbrev pub is_excluded : Mark → Bool
is_excluded Unmarked = false
is_excluded Met = false
is_excluded Excluded = true

-- whether the host is in some element with a mark of this kind
abbrev pub in_some : (Mark → Bool) → List Part → ℕ → Bool
in_some marked parts host = list_any (λ p. marked p.mark && is_in p.set host) parts

-- whether the host is in each element marked `&`
abbrev pub in_each_met : List Part → ℕ → Bool
in_each_met parts host = list_all (λ p. not (is_met p.mark) || is_in p.set host) parts

abbrev pub has_unmarked : List Part → Bool
has_unmarked parts = list_any (λ p. is_unmarked p.mark) parts

-- whether all elements together choose the host
abbrev pub is_chosen : List Part → ℕ → Bool
is_chosen parts host = ((in_some is_unmarked parts host || not (has_unmarked parts)) && in_each_met parts host) && not (in_some is_excluded parts host)

-- the texts of the elements that mean no host, in their order
abbrev pub unmatched_of : List Part → List (List ℕ)
unmatched_of parts = map (λ p. p.text) (filter (λ p. not (has_some p.set)) parts)

-- the chosen hosts, and the texts of the elements that mean no host, in their order
abbrev pub selection : ℕ → List Part → Selected
selection hosts parts = record { hosts = each_host hosts (is_chosen parts); unmatched = unmatched_of parts }

-- an element, with the hosts that it means in an inventory
abbrev pub part_of : InventoryOf → Element → Part
part_of inventory element = record { text = element.text; mark = element.mark; set = element_set inventory element.what }

-- what these elements select in an inventory
abbrev pub selected_by : InventoryOf → List Element → Selected
selected_by inventory elements = selection (length inventory.hosts) (map (part_of inventory) elements)

abbrev pub IsSelection : InventoryOf → List Element → Selected → Type 0
IsSelection inventory elements selected = selected ≡ selected_by inventory elements
