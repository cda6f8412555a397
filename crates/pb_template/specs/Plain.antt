-- Whether a value stands for itself, since no text in it has an expression: whatever names stand for, it gives itself.
use Rattle.std.specs.Prelude.{ℕ, Bool, true, ◌==◌, ◌&&◌, List, length, nat_le}
use Rattle.pb_value.specs.Datum.{Datum, null, boolean, int, text, list, dict, Items, no_items, item, Members, no_members, member}
use Rattle.pb_value.specs.Limits.{max_text}
use Rattle.pb_template.specs.Pieces.{plain_size}

-- a text is one plain piece, or empty, and has at most 1 MiB
abbrev pub is_plain_text : List ℕ → Bool
is_plain_text s = nat_le (length s) max_text && (plain_size s == length s)

-- so is each text of the value, at any depth; the names of dicts don't count, since they are no templates
abbrev mutual
  pub is_plain : Datum → Bool
  is_plain (text s) = is_plain_text s
  is_plain (list ds) = items_plain ds
  is_plain (dict ms) = members_plain ms
  is_plain null = true
  is_plain (boolean b) = true
  is_plain (int z) = true

  pub items_plain : Items → Bool
  items_plain no_items = true
  items_plain (item d ds) = is_plain d && items_plain ds

  pub members_plain : Members → Bool
  members_plain no_members = true
  members_plain (member k d ms) = is_plain d && members_plain ms
