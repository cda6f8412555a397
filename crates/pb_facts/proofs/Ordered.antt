-- The names of a dict stand in byte order, each once.
use Rattle.std.proofs.Common.{◌≡◌, List, [], ◌∷◌, String, Global, Less, string_bytes, string_cmp, nat_cmp, subst}
use Rattle.std.specs.Cmp.Lexicographic.{slice_cmp}
use Rattle.std.specs.List.{AllByRecursion}
use Rattle.std.specs.List.Sorted.{IsStrictlySortedBy}
use Rattle.std.specs.Map.{keys_of}
use Rattle.pb_value.specs.Datum.{Datum, named}
use Rattle.pb_layers.specs.Scope.{Map}
use Rattle.pb_facts.specs.Update.{IsOrdered}

below_named : (k : String Global) (es : List (String Global × Datum)) → AllByRecursion (λ y. string_cmp k y ≡ Less) (keys_of es) → AllByRecursion (λ y. slice_cmp nat_cmp (string_bytes k) y ≡ Less) (keys_of (named es))
below_named k [] h = tt
below_named k (e ∷ es) h = (h.0, below_named k es h.1)

named_ordered : (es : List (String Global × Datum)) → IsStrictlySortedBy string_cmp (keys_of es) → IsOrdered (named es)
unfolding IsStrictlySortedBy
named_ordered [] h = tt
named_ordered (e ∷ es) h = (below_named e.0 es h.0, named_ordered es h.1)

pub dict_ordered : (es : List (String Global × Datum)) (known : Map) → named es ≡ known → IsStrictlySortedBy string_cmp (keys_of es) → IsOrdered known
dict_ordered es known e h = subst (λ (ms : Map). IsOrdered ms) e (named_ordered es h)
