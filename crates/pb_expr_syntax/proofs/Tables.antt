-- Which tokens begin and follow each rule, and the test that the tables are right.
use Rattle.std.proofs.Common.{◌≡◌, ℕ, suc, ◌&&◌, ◌||◌, nat_eq, Bool, true, false, List, [], ◌∷◌, Option, Some, refl}
use Rattle.pb_expr_syntax.specs.declared.grammar.Kind.{Kind}
use Rattle.pb_expr_syntax.specs.declared.grammar.Make.{Make}
use Rattle.pb_expr_syntax.specs.declared.grammar.Make.TheVariants as make
use Rattle.pb_expr_syntax.specs.declared.grammar.Rule.{Rule}
use Rattle.pb_expr_syntax.specs.declared.grammar.Rule.TheVariants as rule
use Rattle.pb_expr_syntax.specs.declared.grammar.Symbol.{Symbol}
use Rattle.pb_expr_syntax.specs.declared.grammar.Symbol.TheVariants.{Take, Go, Do}
use Rattle.pb_expr_syntax.specs.Grammar.{rules}
use Rattle.pb_expr_syntax.specs.Choice.{choice}
use Rattle.pb_expr_syntax.specs.Looks.{look_code, looks}

abbrev pub member : ℕ → List ℕ → Bool
member n [] = false
member n (x ∷ xs) = nat_eq n x || member n xs

-- the rules that may read nothing
abbrev pub nullable : Rule → Bool
nullable rule.Expr = false
nullable rule.Or = false
nullable rule.Ors = true
nullable rule.And = false
nullable rule.Ands = true
nullable rule.Not = false
nullable rule.Cmp = false
nullable rule.Compared = true
nullable rule.Sum = false
nullable rule.Sums = true
nullable rule.Cat = false
nullable rule.Cats = true
nullable rule.Unary = false
nullable rule.Signed = false
nullable rule.Filters = true
nullable rule.Presence = false
nullable rule.Args = true
nullable rule.Items = true
nullable rule.More = true
nullable rule.Post = false
nullable rule.Tails = true
nullable rule.Word = false
nullable rule.Atom = false

abbrev pub first : Rule → List ℕ
first rule.Expr = 1 ∷ 2 ∷ 3 ∷ 6 ∷ 9 ∷ 10 ∷ 11 ∷ 19 ∷ 24 ∷ 26 ∷ []
first rule.Or = 1 ∷ 2 ∷ 3 ∷ 6 ∷ 9 ∷ 10 ∷ 11 ∷ 19 ∷ 24 ∷ 26 ∷ []
first rule.Ors = 5 ∷ []
first rule.And = 1 ∷ 2 ∷ 3 ∷ 6 ∷ 9 ∷ 10 ∷ 11 ∷ 19 ∷ 24 ∷ 26 ∷ []
first rule.Ands = 4 ∷ []
first rule.Not = 1 ∷ 2 ∷ 3 ∷ 6 ∷ 9 ∷ 10 ∷ 11 ∷ 19 ∷ 24 ∷ 26 ∷ []
first rule.Cmp = 1 ∷ 2 ∷ 3 ∷ 9 ∷ 10 ∷ 11 ∷ 19 ∷ 24 ∷ 26 ∷ []
first rule.Compared = 6 ∷ 7 ∷ 12 ∷ 13 ∷ 14 ∷ 15 ∷ 16 ∷ 17 ∷ []
first rule.Sum = 1 ∷ 2 ∷ 3 ∷ 9 ∷ 10 ∷ 11 ∷ 19 ∷ 24 ∷ 26 ∷ []
first rule.Sums = 18 ∷ 19 ∷ []
first rule.Cat = 1 ∷ 2 ∷ 3 ∷ 9 ∷ 10 ∷ 11 ∷ 19 ∷ 24 ∷ 26 ∷ []
first rule.Cats = 20 ∷ []
first rule.Unary = 1 ∷ 2 ∷ 3 ∷ 9 ∷ 10 ∷ 11 ∷ 19 ∷ 24 ∷ 26 ∷ []
first rule.Signed = 1 ∷ 2 ∷ 3 ∷ 9 ∷ 10 ∷ 11 ∷ 19 ∷ 24 ∷ 26 ∷ []
first rule.Filters = 8 ∷ 21 ∷ []
first rule.Presence = 3 ∷ 6 ∷ []
first rule.Args = 24 ∷ []
first rule.Items = 1 ∷ 2 ∷ 3 ∷ 6 ∷ 9 ∷ 10 ∷ 11 ∷ 19 ∷ 24 ∷ 26 ∷ []
first rule.More = 23 ∷ []
first rule.Post = 1 ∷ 2 ∷ 3 ∷ 9 ∷ 10 ∷ 11 ∷ 24 ∷ 26 ∷ []
first rule.Tails = 22 ∷ 26 ∷ []
first rule.Word = 3 ∷ 4 ∷ 5 ∷ 6 ∷ 7 ∷ 8 ∷ 9 ∷ 10 ∷ 11 ∷ []
first rule.Atom = 1 ∷ 2 ∷ 3 ∷ 9 ∷ 10 ∷ 11 ∷ 24 ∷ 26 ∷ []

abbrev pub follow : Rule → List ℕ
follow rule.Expr = 0 ∷ 23 ∷ 25 ∷ 27 ∷ []
follow rule.Or = 0 ∷ 23 ∷ 25 ∷ 27 ∷ []
follow rule.Ors = 0 ∷ 23 ∷ 25 ∷ 27 ∷ []
follow rule.And = 0 ∷ 5 ∷ 23 ∷ 25 ∷ 27 ∷ []
follow rule.Ands = 0 ∷ 5 ∷ 23 ∷ 25 ∷ 27 ∷ []
follow rule.Not = 0 ∷ 4 ∷ 5 ∷ 23 ∷ 25 ∷ 27 ∷ []
follow rule.Cmp = 0 ∷ 4 ∷ 5 ∷ 23 ∷ 25 ∷ 27 ∷ []
follow rule.Compared = 0 ∷ 4 ∷ 5 ∷ 23 ∷ 25 ∷ 27 ∷ []
follow rule.Sum = 0 ∷ 4 ∷ 5 ∷ 6 ∷ 7 ∷ 12 ∷ 13 ∷ 14 ∷ 15 ∷ 16 ∷ 17 ∷ 23 ∷ 25 ∷ 27 ∷ []
follow rule.Sums = 0 ∷ 4 ∷ 5 ∷ 6 ∷ 7 ∷ 12 ∷ 13 ∷ 14 ∷ 15 ∷ 16 ∷ 17 ∷ 23 ∷ 25 ∷ 27 ∷ []
follow rule.Cat = 0 ∷ 4 ∷ 5 ∷ 6 ∷ 7 ∷ 12 ∷ 13 ∷ 14 ∷ 15 ∷ 16 ∷ 17 ∷ 18 ∷ 19 ∷ 23 ∷ 25 ∷ 27 ∷ []
follow rule.Cats = 0 ∷ 4 ∷ 5 ∷ 6 ∷ 7 ∷ 12 ∷ 13 ∷ 14 ∷ 15 ∷ 16 ∷ 17 ∷ 18 ∷ 19 ∷ 23 ∷ 25 ∷ 27 ∷ []
follow rule.Unary = 0 ∷ 4 ∷ 5 ∷ 6 ∷ 7 ∷ 12 ∷ 13 ∷ 14 ∷ 15 ∷ 16 ∷ 17 ∷ 18 ∷ 19 ∷ 20 ∷ 23 ∷ 25 ∷ 27 ∷ []
follow rule.Signed = 0 ∷ 4 ∷ 5 ∷ 6 ∷ 7 ∷ 8 ∷ 12 ∷ 13 ∷ 14 ∷ 15 ∷ 16 ∷ 17 ∷ 18 ∷ 19 ∷ 20 ∷ 21 ∷ 23 ∷ 25 ∷ 27 ∷ []
follow rule.Filters = 0 ∷ 4 ∷ 5 ∷ 6 ∷ 7 ∷ 12 ∷ 13 ∷ 14 ∷ 15 ∷ 16 ∷ 17 ∷ 18 ∷ 19 ∷ 20 ∷ 23 ∷ 25 ∷ 27 ∷ []
follow rule.Presence = 0 ∷ 4 ∷ 5 ∷ 6 ∷ 7 ∷ 8 ∷ 12 ∷ 13 ∷ 14 ∷ 15 ∷ 16 ∷ 17 ∷ 18 ∷ 19 ∷ 20 ∷ 21 ∷ 23 ∷ 25 ∷ 27 ∷ []
follow rule.Args = 0 ∷ 4 ∷ 5 ∷ 6 ∷ 7 ∷ 8 ∷ 12 ∷ 13 ∷ 14 ∷ 15 ∷ 16 ∷ 17 ∷ 18 ∷ 19 ∷ 20 ∷ 21 ∷ 23 ∷ 25 ∷ 27 ∷ []
follow rule.Items = 25 ∷ 27 ∷ []
follow rule.More = 25 ∷ 27 ∷ []
follow rule.Post = 0 ∷ 4 ∷ 5 ∷ 6 ∷ 7 ∷ 8 ∷ 12 ∷ 13 ∷ 14 ∷ 15 ∷ 16 ∷ 17 ∷ 18 ∷ 19 ∷ 20 ∷ 21 ∷ 23 ∷ 25 ∷ 27 ∷ []
follow rule.Tails = 0 ∷ 4 ∷ 5 ∷ 6 ∷ 7 ∷ 8 ∷ 12 ∷ 13 ∷ 14 ∷ 15 ∷ 16 ∷ 17 ∷ 18 ∷ 19 ∷ 20 ∷ 21 ∷ 23 ∷ 25 ∷ 27 ∷ []
follow rule.Word = 0 ∷ 4 ∷ 5 ∷ 6 ∷ 7 ∷ 8 ∷ 12 ∷ 13 ∷ 14 ∷ 15 ∷ 16 ∷ 17 ∷ 18 ∷ 19 ∷ 20 ∷ 21 ∷ 22 ∷ 23 ∷ 25 ∷ 26 ∷ 27 ∷ []
follow rule.Atom = 0 ∷ 4 ∷ 5 ∷ 6 ∷ 7 ∷ 8 ∷ 12 ∷ 13 ∷ 14 ∷ 15 ∷ 16 ∷ 17 ∷ 18 ∷ 19 ∷ 20 ∷ 21 ∷ 22 ∷ 23 ∷ 25 ∷ 26 ∷ 27 ∷ []

-- the end of a filter
abbrev pub is_call : Make → Bool
is_call make.Filtered = true
is_call _ = false

abbrev pub is_args : Rule → Bool
is_args rule.Args = true
is_args _ = false

abbrev pub every : {A : Type 0} → (A → Bool) → List A → Bool
every p [] = true
every p (x ∷ xs) = p x && every p xs

abbrev pub implies : Bool → Bool → Bool
implies true b = b
implies false b = true

-- whether symbols may begin with a token
abbrev pub firsts : List Symbol → Option Kind → Bool
firsts [] h = false
firsts (Take k how ∷ ss) h = nat_eq (look_code h) (look_code (Some k))
firsts (Do m ∷ ss) h = firsts ss h
firsts (Go r ∷ ss) h = member (look_code h) (first r) || (nullable r && firsts ss h)

abbrev pub empties : List Symbol → Bool
empties [] = true
empties (Take k how ∷ ss) = false
empties (Do m ∷ ss) = empties ss
empties (Go r ∷ ss) = nullable r && empties ss

-- whether a filter may end before another token is taken
abbrev pub calls : List Symbol → Bool
calls [] = false
calls (Take k how ∷ ss) = false
calls (Do m ∷ ss) = is_call m || calls ss
calls (Go r ∷ ss) = nullable r && calls ss

abbrev pub is_empty : List Symbol → Bool
is_empty [] = true
is_empty (x ∷ ss) = false

-- an alternative takes a token, or is nothing
abbrev pub is_plain : List Symbol → Bool
is_plain a = implies (calls a || empties a) (is_empty a)

abbrev pub follows : Rule → Option Kind → Bool
follows r h = member (look_code h) (follow r)

-- whether the alternative may be taken before the token
abbrev pub asks : Rule → List Symbol → Option Kind → Bool
asks r alternative h = firsts alternative h || (empties alternative && follows r h)

-- in the alternative, each rule's followers are known, and only arguments stand before the end of a filter
abbrev pub keeps : Rule → List Symbol → Bool
keeps r [] = true
keeps r (Take k how ∷ ss) = keeps r ss
keeps r (Do m ∷ ss) = keeps r ss
keeps r (Go q ∷ ss) = every (λ h. implies (asks r ss h) (follows q h)) looks && (implies (calls ss || (empties ss && is_args r)) (is_args q) && keeps r ss)

abbrev pub is_right : Rule → List Symbol → Bool
is_right r alternative =
    every (λ h. implies (firsts alternative h) (member (look_code h) (first r))) looks
    && (implies (empties alternative) (nullable r) && (is_plain alternative && keeps r alternative))

-- the choice is the one alternative that the token asks for
abbrev pub picks : Rule → ℕ → List (List Symbol) → Option Kind → Bool
picks r place [] h = true
picks r place (a ∷ as') h = implies (asks r a h) (nat_eq (choice r h) place) && picks r (suc place) as' h

abbrev pub is_right_rule : Rule → Bool
is_right_rule r = every (is_right r) (rules r) && every (picks r 0 (rules r)) looks

pub all_right : (r : Rule) → is_right_rule r ≡ true
all_right rule.Expr = refl
all_right rule.Or = refl
all_right rule.Ors = refl
all_right rule.And = refl
all_right rule.Ands = refl
all_right rule.Not = refl
all_right rule.Cmp = refl
all_right rule.Compared = refl
all_right rule.Sum = refl
all_right rule.Sums = refl
all_right rule.Cat = refl
all_right rule.Cats = refl
all_right rule.Unary = refl
all_right rule.Signed = refl
all_right rule.Filters = refl
all_right rule.Presence = refl
all_right rule.Args = refl
all_right rule.Items = refl
all_right rule.More = refl
all_right rule.Post = refl
all_right rule.Tails = refl
all_right rule.Word = refl
all_right rule.Atom = refl
