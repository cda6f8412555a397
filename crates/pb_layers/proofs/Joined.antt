-- Look-ups in maps that stand behind one another.
use Rattle.std.specs.Prelude.{if◌then◌else◌}
use Rattle.std.proofs.Common.{◌≡◌, ℕ, Bool, true, false, List, [], ◌∷◌, ◌++◌, Some, refl, ap, ◌∙◌}
use Rattle.std.specs.Map.{lookup}
use Rattle.pb_value.specs.Datum.{value_at}
use Rattle.pb_layers.specs.Scope.{Map, or_else}

lookup-append : (test : List ℕ → Bool) (m n : Map) → lookup test (m ++ n) ≡ or_else (lookup test m) (lookup test n)
lookup-append test [] n = refl
lookup-append test (x ∷ m) n = by_test (test x.0) (lookup-append test m n)
  where
    by_test : (b : Bool) → lookup test (m ++ n) ≡ or_else (lookup test m) (lookup test n)
        → (if b then Some x.1 else lookup test (m ++ n)) ≡ or_else (if b then Some x.1 else lookup test m) (lookup test n)
    by_test true later = refl
    by_test false later = later

pub value_in_four : (name : List ℕ) (a b c d : Map)
    → value_at name (a ++ b ++ (c ++ d)) ≡ or_else (or_else (value_at name a) (value_at name b)) (or_else (value_at name c) (value_at name d))
value_in_four name a b c d =
    lookup-append _ (a ++ b) (c ++ d) ∙ ap (λ o. or_else o (value_at name (c ++ d))) (lookup-append _ a b)
    ∙ ap (or_else (or_else (value_at name a) (value_at name b))) (lookup-append _ c d)
