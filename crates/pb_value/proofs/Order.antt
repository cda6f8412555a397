-- A key that comes first among ascending keys is below the later ones.
use Rattle.std.proofs.Common.{◌≡◌, List, [], ◌∷◌, ◌++◌, String, Global, Less, Greater, string_bytes, string_cmp, nat_cmp, ap, ◌∙◌}
use Rattle.std.proofs.lemmas.Cmp.{nat_list_cmp_total}
use Rattle.std.specs.Cmp.Lexicographic.{slice_cmp}
use Rattle.std.specs.List.{AllByRecursion}
use Rattle.std.specs.Map.{keys_of}
use Rattle.std.specs.Ordering.{ordering_reverse}

below_middle : {X : Type 0} (k : String Global) (es : List (String Global × X)) (e : String Global × X) (more : List (String Global × X)) → AllByRecursion (λ y. string_cmp k y ≡ Less) (keys_of (es ++ e ∷ more))
    → string_cmp k e.0 ≡ Less
below_middle k [] e more h = h.0
below_middle k (x ∷ es) e more h = below_middle k es e more h.1

pub above_first : {X : Type 0} (k : String Global) (es : List (String Global × X)) (e : String Global × X) (more : List (String Global × X)) → AllByRecursion (λ y. string_cmp k y ≡ Less) (keys_of (es ++ e ∷ more))
    → slice_cmp nat_cmp (string_bytes e.0) (string_bytes k) ≡ Greater
above_first k es e more h = nat_list_cmp_total.antisymm (string_bytes e.0) (string_bytes k) ∙ ap ordering_reverse (below_middle k es e more h)
