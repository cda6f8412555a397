-- Worked examples: each is proved by computing both sides.
use Rattle.std.specs.Prelude.{◌≡◌, ⊤, pos, negsuc, true, false, [], ◌∷◌, codes, refl}
use Rattle.std.specs.Fmt.{digits}
use Rattle.json.specs.Token.{Token}
use Rattle.json.specs.Print.{print}
use Rattle.serde_json.proofs.OnLiterals.{serde_json_on_literals}
use Rattle.pb_value.specs.Datum.{Datum, null, boolean, int, text, list, dict, items_of, members_of}
use Rattle.pb_compact.specs.Tokens.{tokens_of}

-- what computes a row
unfoldable on_literals : ⊤
unfolding digits serde_json_on_literals
on_literals = tt

-- a dict with two names, and a list under the first
abbrev two_names : Datum
two_names = dict (members_of ((codes "hosts", list (items_of (text (codes "a") ∷ null ∷ int (negsuc 11) ∷ []))) ∷ (codes "ok", boolean true) ∷ []))

its_tokens : tokens_of two_names
    ≡ Token.begin_object ∷ Token.key (codes "hosts") ∷ Token.begin_array ∷ Token.string (codes "a") ∷ Token.null ∷ Token.number (codes "-12") ∷ Token.end_array
    ∷ Token.key (codes "ok") ∷ Token.boolean true ∷ Token.end_object ∷ []
unfolding on_literals
its_tokens = refl

its_text : print (tokens_of two_names) ≡ codes "{\"hosts\":[\"a\",null,-12],\"ok\":true}"
unfolding on_literals
its_text = refl

empty_list : print (tokens_of (list (items_of []))) ≡ codes "[]"
unfolding on_literals
empty_list = refl

empty_dict : print (tokens_of (dict (members_of []))) ≡ codes "{}"
unfolding on_literals
empty_dict = refl

-- values behind one another have a comma between them, at each depth
list_of_lists : print (tokens_of (list (items_of (list (items_of (int (pos 1) ∷ [])) ∷ list (items_of []) ∷ boolean false ∷ [])))) ≡ codes "[[1],[],false]"
unfolding on_literals
list_of_lists = refl

-- quotes, backslashes and line ends are escaped, in names too
escapes : print (tokens_of (dict (members_of ((codes "a\"b", text (codes "c\\d\n")) ∷ [])))) ≡ codes "{\"a\\\"b\":\"c\\\\d\\n\"}"
unfolding on_literals
escapes = refl
