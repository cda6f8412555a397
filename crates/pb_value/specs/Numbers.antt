-- Whether each whole number in a value fits 64 bits with a sign, as every number that a program holds does.
use Rattle.std.specs.Prelude.{◌^◌, ℤ, pos, negsuc, Bool, true, ◌&&◌, nat_lt}
use Rattle.pb_value.specs.Datum.{Datum, null, boolean, int, text, list, dict, Items, no_items, item, Members, no_members, member}

-- a number from -2 ^ 63 to 2 ^ 63 - 1
abbrev pub fits_word : ℤ → Bool
fits_word (pos n) = nat_lt n (2 ^ 63)
fits_word (negsuc n) = nat_lt n (2 ^ 63)

-- each whole number in a value fits, at any depth; so it is where there is none
abbrev mutual
  pub are_words : Datum → Bool
  are_words null = true
  are_words (boolean b) = true
  are_words (int z) = fits_word z
  are_words (text s) = true
  are_words (list ds) = items_are_words ds
  are_words (dict ms) = members_are_words ms

  pub items_are_words : Items → Bool
  items_are_words no_items = true
  items_are_words (item d ds) = are_words d && items_are_words ds

  pub members_are_words : Members → Bool
  members_are_words no_members = true
  members_are_words (member k d ms) = are_words d && members_are_words ms
