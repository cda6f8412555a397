-- Which alternative of a rule the next token asks for.
use Rattle.std.specs.Prelude.{ℕ, Option, Some}
use Rattle.pb_expr_syntax.specs.declared.grammar.Kind.{Kind}
use Rattle.pb_expr_syntax.specs.declared.grammar.Kind.TheVariants as kind
use Rattle.pb_expr_syntax.specs.declared.grammar.Rule.{Rule}
use Rattle.pb_expr_syntax.specs.declared.grammar.Rule.TheVariants as rule

-- of a rule with several alternatives, the number of the one that a token of this kind, or the end (None), asks for; 99 is none
abbrev choice_Ors : Option Kind → ℕ
choice_Ors (Some kind.Or) = 0
choice_Ors _ = 1

abbrev choice_Ands : Option Kind → ℕ
choice_Ands (Some kind.And) = 0
choice_Ands _ = 1

abbrev choice_Not : Option Kind → ℕ
choice_Not (Some kind.Not) = 0
choice_Not _ = 1

abbrev choice_Compared : Option Kind → ℕ
choice_Compared (Some kind.Equal) = 0
choice_Compared (Some kind.NotEqual) = 1
choice_Compared (Some kind.Less) = 2
choice_Compared (Some kind.AtMost) = 3
choice_Compared (Some kind.Greater) = 4
choice_Compared (Some kind.AtLeast) = 5
choice_Compared (Some kind.In) = 6
choice_Compared (Some kind.Not) = 7
choice_Compared _ = 8

abbrev choice_Sums : Option Kind → ℕ
choice_Sums (Some kind.Plus) = 0
choice_Sums (Some kind.Minus) = 1
choice_Sums _ = 2

abbrev choice_Cats : Option Kind → ℕ
choice_Cats (Some kind.Tilde) = 0
choice_Cats _ = 1

abbrev choice_Signed : Option Kind → ℕ
choice_Signed (Some kind.Minus) = 0
choice_Signed _ = 1

abbrev choice_Filters : Option Kind → ℕ
choice_Filters (Some kind.Bar) = 0
choice_Filters (Some kind.Is) = 1
choice_Filters _ = 2

abbrev choice_Presence : Option Kind → ℕ
choice_Presence (Some kind.Not) = 0
choice_Presence (Some kind.Name) = 1
choice_Presence _ = 99

abbrev choice_Args : Option Kind → ℕ
choice_Args (Some kind.Open) = 0
choice_Args _ = 1

abbrev choice_Items : Option Kind → ℕ
choice_Items (Some kind.Close) = 1
choice_Items (Some kind.ListClose) = 1
choice_Items _ = 0

abbrev choice_More : Option Kind → ℕ
choice_More (Some kind.Comma) = 0
choice_More _ = 1

abbrev choice_Tails : Option Kind → ℕ
choice_Tails (Some kind.Dot) = 0
choice_Tails (Some kind.ListOpen) = 1
choice_Tails _ = 2

abbrev choice_Word : Option Kind → ℕ
choice_Word (Some kind.Name) = 0
choice_Word (Some kind.And) = 1
choice_Word (Some kind.Or) = 2
choice_Word (Some kind.Not) = 3
choice_Word (Some kind.In) = 4
choice_Word (Some kind.Is) = 5
choice_Word (Some kind.True) = 6
choice_Word (Some kind.False) = 7
choice_Word (Some kind.Null) = 8
choice_Word _ = 99

abbrev choice_Atom : Option Kind → ℕ
choice_Atom (Some kind.Digits) = 0
choice_Atom (Some kind.Text) = 1
choice_Atom (Some kind.Name) = 2
choice_Atom (Some kind.True) = 3
choice_Atom (Some kind.False) = 4
choice_Atom (Some kind.Null) = 5
choice_Atom (Some kind.Open) = 6
choice_Atom (Some kind.ListOpen) = 7
choice_Atom _ = 99

-- the number of the alternative; 99 is none
abbrev pub choice : Rule → Option Kind → ℕ
choice rule.Expr look = 0
choice rule.Or look = 0
choice rule.Ors look = choice_Ors look
choice rule.And look = 0
choice rule.Ands look = choice_Ands look
choice rule.Not look = choice_Not look
choice rule.Cmp look = 0
choice rule.Compared look = choice_Compared look
choice rule.Sum look = 0
choice rule.Sums look = choice_Sums look
choice rule.Cat look = 0
choice rule.Cats look = choice_Cats look
choice rule.Unary look = 0
choice rule.Signed look = choice_Signed look
choice rule.Filters look = choice_Filters look
choice rule.Presence look = choice_Presence look
choice rule.Args look = choice_Args look
choice rule.Items look = choice_Items look
choice rule.More look = choice_More look
choice rule.Post look = 0
choice rule.Tails look = choice_Tails look
choice rule.Word look = choice_Word look
choice rule.Atom look = choice_Atom look
