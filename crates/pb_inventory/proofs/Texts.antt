-- Names as text beside the same names as bytes.
use Rattle.std.proofs.Common.{◌≡◌, List, [], ◌∷◌, String, Global, string_bytes, string_cmp, Ordering, Less, Equal, Greater, refl, ◌∙◌}
use Rattle.std.specs.BTreeSet as sorted
use Rattle.std.specs.Ordering.{match_ordering}
use Rattle.pb_inventory.specs.Names.{texts, in_place}

texts-match_ordering : (o : Ordering) (a b c : List (String Global)) → texts (match_ordering o a b c) ≡ match_ordering o (texts a) (texts b) (texts c)
texts-match_ordering Less a b c = refl
texts-match_ordering Equal a b c = refl
texts-match_ordering Greater a b c = refl

pub texts-in_place : (names : List (String Global)) (n : String Global) → texts (sorted.insert_key string_cmp names n) ≡ in_place (string_bytes n) (texts names)
texts-in_place [] n = refl
texts-in_place (m ∷ ms) n = texts-match_ordering (string_cmp n m) _ _ _ ∙ rw (texts-in_place ms n)
