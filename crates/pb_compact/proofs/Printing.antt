-- The text of a value's tokens is its compact JSON.
use Rattle.std.proofs.Common.{◌≡◌, ◌∷◌, ◌++◌, pos, negsuc, refl, ap, ap₂, sym, ◌∙◌}
use Rattle.json.specs.Token.{Token}
use Rattle.json.specs.Print.{print}
use Rattle.json.specs.Tree.{json_tokens, items_tokens, members_tokens}
use Rattle.serde_json.specs.Written.{outline, items_outline, members_outline}
use Rattle.serde_json.proofs.Texts.{print-outline}
use Rattle.pb_value.specs.Datum.{Datum, null, boolean, int, text, list, dict, Items, no_items, item, Members, no_members, member}
use Rattle.pb_value.specs.ToJson.{json_of, items_json, members_json}
use Rattle.pb_compact.specs.Tokens.{tokens_of, item_tokens, member_tokens}
use Rattle.pb_compact.specs.Compact.{TokensAreCompact}

mutual
  outlined : (d : Datum) → json_tokens (outline (json_of d)) ≡ tokens_of d
  outlined null = refl
  outlined (boolean b) = refl
  outlined (int (pos n)) = refl
  outlined (int (negsuc n)) = refl
  outlined (text s) = refl
  outlined (list ds) = ap (λ ts. Token.begin_array ∷ ts) (items_outlined ds)
  outlined (dict ms) = ap (λ ts. Token.begin_object ∷ ts) (members_outlined ms)

  items_outlined : (ds : Items) → items_tokens (items_outline (items_json ds)) ≡ item_tokens ds
  items_outlined no_items = refl
  items_outlined (item d ds) = ap₂ (λ a b. a ++ b) (outlined d) (items_outlined ds)

  members_outlined : (ms : Members) → members_tokens (members_outline (members_json ms)) ≡ member_tokens ms
  members_outlined no_members = refl
  members_outlined (member k d ms) = ap₂ (λ a b. Token.key k ∷ (a ++ b)) (outlined d) (members_outlined ms)

pub tokens_are_compact : TokensAreCompact
tokens_are_compact d = ap print (sym (outlined d)) ∙ print-outline (json_of d)
