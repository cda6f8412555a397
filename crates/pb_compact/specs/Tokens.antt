-- The tokens of a value as JSON.
use Rattle.std.specs.Prelude.{List, [], ◌∷◌, ◌++◌}
use Rattle.std.specs.Fmt.{signed_decimal}
use Rattle.json.specs.Token.{Token}
use Rattle.pb_value.specs.Datum.{Datum, null, boolean, int, text, list, dict, Items, no_items, item, Members, no_members, member}

abbrev mutual
  pub tokens_of : Datum → List Token
  tokens_of null = Token.null ∷ []
  tokens_of (boolean b) = Token.boolean b ∷ []
  tokens_of (int z) = Token.number (signed_decimal z) ∷ []
  tokens_of (text s) = Token.string s ∷ []
  tokens_of (list ds) = Token.begin_array ∷ item_tokens ds
  tokens_of (dict ms) = Token.begin_object ∷ member_tokens ms

  -- with the closing bracket
  pub item_tokens : Items → List Token
  item_tokens no_items = Token.end_array ∷ []
  item_tokens (item d ds) = tokens_of d ++ item_tokens ds

  pub member_tokens : Members → List Token
  member_tokens no_members = Token.end_object ∷ []
  member_tokens (member k d ms) = Token.key k ∷ (tokens_of d ++ member_tokens ms)
