-- The kinds of tokens, and the end of a text, by number.
use Rattle.std.specs.Prelude.{ℕ, nat_eq, Bool, List, [], ◌∷◌, Option, Some, None}
use Rattle.pb_expr_syntax.specs.declared.grammar.Kind.{Kind}
use Rattle.pb_expr_syntax.specs.declared.grammar.Kind.TheVariants as kind

-- a kind or the end as a number
abbrev pub look_code : Option Kind → ℕ
look_code None = 0
look_code (Some kind.Digits) = 1
look_code (Some kind.Text) = 2
look_code (Some kind.Name) = 3
look_code (Some kind.And) = 4
look_code (Some kind.Or) = 5
look_code (Some kind.Not) = 6
look_code (Some kind.In) = 7
look_code (Some kind.Is) = 8
look_code (Some kind.True) = 9
look_code (Some kind.False) = 10
look_code (Some kind.Null) = 11
look_code (Some kind.Equal) = 12
look_code (Some kind.NotEqual) = 13
look_code (Some kind.Less) = 14
look_code (Some kind.AtMost) = 15
look_code (Some kind.Greater) = 16
look_code (Some kind.AtLeast) = 17
look_code (Some kind.Plus) = 18
look_code (Some kind.Minus) = 19
look_code (Some kind.Tilde) = 20
look_code (Some kind.Bar) = 21
look_code (Some kind.Dot) = 22
look_code (Some kind.Comma) = 23
look_code (Some kind.Open) = 24
look_code (Some kind.Close) = 25
look_code (Some kind.ListOpen) = 26
look_code (Some kind.ListClose) = 27

-- all of them
abbrev pub looks : List (Option Kind)
looks = None ∷ Some kind.Digits ∷ Some kind.Text ∷ Some kind.Name ∷ Some kind.And ∷ Some kind.Or ∷ Some kind.Not ∷ Some kind.In ∷ Some kind.Is ∷ Some kind.True ∷ Some kind.False ∷ Some kind.Null ∷ Some kind.Equal ∷ Some kind.NotEqual ∷ Some kind.Less ∷ Some kind.AtMost ∷ Some kind.Greater ∷ Some kind.AtLeast ∷ Some kind.Plus ∷ Some kind.Minus ∷ Some kind.Tilde ∷ Some kind.Bar ∷ Some kind.Dot ∷ Some kind.Comma ∷ Some kind.Open ∷ Some kind.Close ∷ Some kind.ListOpen ∷ Some kind.ListClose ∷ []

-- whether two kinds are one
abbrev pub is_kind : Kind → Kind → Bool
is_kind a b = nat_eq (look_code (Some a)) (look_code (Some b))
