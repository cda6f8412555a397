-- About how many bytes of memory a copy of a value takes.
use Rattle.std.specs.Prelude.{ℕ, ◌+◌, ◌*◌, List, length}
use Rattle.pb_value.specs.Datum.{Datum, null, boolean, int, text, list, dict, Items, no_items, item, Members, no_members, member, members_of}
use Rattle.pb_variables.specs.declared.shared.OfGroups.{OfGroups}

-- a value takes some words, a text its bytes beside them, and a dict room for some entries even where it has few
abbrev mutual
  pub weight : Datum → ℕ
  weight null = 64
  weight (boolean b) = 64
  weight (int z) = 64
  weight (text s) = 64 + length s
  weight (list ds) = 64 + items_weight ds
  weight (dict ms) = 1024 + members_weight ms

  pub items_weight : Items → ℕ
  items_weight no_items = 0
  items_weight (item d ds) = weight d + items_weight ds

  pub members_weight : Members → ℕ
  members_weight no_members = 0
  members_weight (member k d ms) = 64 + length k + weight d + members_weight ms

-- what is kept for the hosts of some groups, with the numbers of these groups
abbrev pub kept_weight : List ℕ → OfGroups → ℕ
kept_weight numbers of = 1024 + 4 * length numbers + weight of.names + members_weight (members_of of.variables)
