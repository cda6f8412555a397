-- Variables that may differ under one name alone.
use Rattle.std.specs.Prelude.{◌≡◌, ℕ, true, false, List, Some}
use Rattle.std.specs.Str.{bytes_eq}
use Rattle.pb_value.specs.Datum.{Datum, value_at}
use Rattle.pb_layers.specs.Scope.{Map, found, has_templates}
use Rattle.pb_items.specs.FromExprEval.{Names}
use Rattle.pb_reach.specs.Named.{in_value}

-- every other name has the same value in both maps
abbrev pub SameBut : List ℕ → Map → Map → Type 0
SameBut word one other = (name : List ℕ) → bytes_eq name word ≡ false → value_at name one ≡ value_at name other

-- every other name stands for the same
abbrev pub Agree : List ℕ → Names → Names → Type 0
Agree word names others = (name : List ℕ) → bytes_eq name word ≡ false → names name ≡ others name

-- Every other name stands for the same in both scopes, and no template that can be looked up in them has the one name.
pub record AreApart (word : List ℕ) (scope other : List Map) : Type 0 where
  pub alike : (name : List ℕ) → bytes_eq name word ≡ false → found name scope ≡ found name other
  pub stored : (name : List ℕ) (f : ℕ × Datum) → found name other ≡ Some f → has_templates f.0 ≡ true → in_value word f.1 ≡ false
