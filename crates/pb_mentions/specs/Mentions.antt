-- Whether a word stands in a text, whatever it means there. A template that names a variable has its name among its bytes, so that a text without
-- these bytes is known at once, and needn't be read as a template.
use Rattle.std.specs.Prelude.{ℕ, Bool, true, false, ◌==◌, ◌&&◌, ◌||◌, List, [], ◌∷◌}
use Rattle.pb_value.specs.Datum.{Datum, null, boolean, int, text, list, dict, Items, no_items, item, Members, no_members, member}

-- bytes begin with the word
abbrev pub begins : List ℕ → List ℕ → Bool
begins [] bs = true
begins (w ∷ ws) [] = false
begins (w ∷ ws) (b ∷ bs) = b == w && begins ws bs

-- the word stands somewhere in the bytes
abbrev pub has_inside : List ℕ → List ℕ → Bool
has_inside word [] = false
has_inside word (b ∷ bs) = begins word (b ∷ bs) || has_inside word bs

-- it stands in a text of the value, at any depth; the names of dicts don't count, since they are no templates
abbrev mutual
  pub mentions : List ℕ → Datum → Bool
  mentions word (text s) = has_inside word s
  mentions word (list ds) = items_mention word ds
  mentions word (dict ms) = members_mention word ms
  mentions word null = false
  mentions word (boolean b) = false
  mentions word (int z) = false

  pub items_mention : List ℕ → Items → Bool
  items_mention word no_items = false
  items_mention word (item d ds) = mentions word d || items_mention word ds

  pub members_mention : List ℕ → Members → Bool
  members_mention word no_members = false
  members_mention word (member k d ms) = mentions word d || members_mention word ms
