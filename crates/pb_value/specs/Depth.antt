-- How deep a value nests.
use Rattle.std.specs.Prelude.{ℕ, ◌+◌, max}
use Rattle.pb_value.specs.Datum.{Datum, null, boolean, int, text, list, dict, Items, no_items, item, Members, no_members, member}

-- a scalar has depth 0, a list or dict one more than its deepest member, and an empty one 1
abbrev mutual
  pub depth : Datum → ℕ
  depth null = 0
  depth (boolean b) = 0
  depth (int z) = 0
  depth (text s) = 0
  depth (list ds) = items_depth ds + 1
  depth (dict ms) = members_depth ms + 1

  pub items_depth : Items → ℕ
  items_depth no_items = 0
  items_depth (item d ds) = max (depth d) (items_depth ds)

  pub members_depth : Members → ℕ
  members_depth no_members = 0
  members_depth (member k d ms) = max (depth d) (members_depth ms)
