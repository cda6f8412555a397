-- The ends of filters with wrong numbers of arguments: which symbols lead to one before another token is taken.
use Rattle.std.proofs.Common.{◌≡◌, ℕ, ◌++◌, ◌&&◌, ◌||◌, Bool, true, false, List, [], ◌∷◌, Option, Some, None, ◌⊎◌, inl, inr, refl, sym, ◌∙◌, ap, subst, cond}
use Rattle.pb_expr_syntax.specs.declared.grammar.Kind.{Kind}
use Rattle.pb_expr_syntax.specs.declared.grammar.Kind.TheVariants as kind
use Rattle.pb_expr_syntax.specs.declared.grammar.How.TheVariants.{Skip}
use Rattle.pb_expr_syntax.specs.declared.grammar.Make.{Make}
use Rattle.pb_expr_syntax.specs.declared.grammar.Make.TheVariants as make
use Rattle.pb_expr_syntax.specs.declared.grammar.Rule.{Rule}
use Rattle.pb_expr_syntax.specs.declared.grammar.Rule.TheVariants as rule
use Rattle.pb_expr_syntax.specs.declared.grammar.Symbol.{Symbol}
use Rattle.pb_expr_syntax.specs.declared.grammar.Symbol.TheVariants.{Take, Go, Do}
use Rattle.pb_expr_syntax.specs.Choice.{choice}
use Rattle.pb_expr_syntax.specs.Grammar as grammar
use Rattle.pb_expr_syntax.specs.Grammar.{Tok, Part, One, Many, Called, Reads, IsWrong, made, takes, rules, nth}
use Rattle.pb_expr_syntax.specs.Tree as tree
use Rattle.pb_expr_syntax.specs.Tree.{trees_of}
use Rattle.pb_expr_syntax.proofs.Tables.{nullable, implies, empties, is_call, is_args, calls, is_plain, is_right}
use Rattle.pb_expr_syntax.proofs.Starts.{implies_of, test_of, plain_of, nullable_of}
use Rattle.pb_expr_syntax.proofs.Leads.{Good, calls-append}

pub args_is : (r : Rule) → is_args r ≡ true → r ≡ rule.Args
args_is rule.Args e = refl
args_is _ e = cc

-- what makes a call wrong makes nothing of its parts
pub wrong_none : (at : ℕ) (m : Make) (ss : List Symbol) (vs : List Part) → IsWrong at (Do m ∷ ss) vs → made m vs ≡ None
wrong_none at make.Filtered ss (Many xs ∷ Called f name ∷ One x ∷ vs) w = ap (λ b. cond b (Some (One (tree.Apply f x (trees_of xs)) ∷ vs)) None) w.1
wrong_none at _ ss _ w = absurd w

wrong_calls : (at : ℕ) (ss : List Symbol) (vs : List Part) → IsWrong at ss vs → calls ss ≡ true
wrong_calls at (Do make.Filtered ∷ ss) (Many xs ∷ Called f name ∷ One x ∷ vs) w = refl
wrong_calls at _ _ w = absurd w

-- an alternative that takes no token is nothing
plain_is : (a ss : List Symbol) → is_plain a ≡ true → calls (a ++ ss) ≡ true → a ≡ []
plain_is [] ss p c = refl
plain_is (x ∷ a) ss p c = by_tests (calls (x ∷ a)) (empties (x ∷ a)) (calls ss) p (sym (calls-append (x ∷ a) ss) ∙ c)
  where
    by_tests : (c e s : Bool) → implies (c || e) false ≡ true → (c || (e && s)) ≡ true → x ∷ a ≡ []
    by_tests true e s p c = cc
    by_tests false true s p c = cc
    by_tests false false s p c = cc

no_calls : (r : Rule) (ss a : List Symbol) (place : ℕ) → nth (rules r) place ≡ Some a → calls (a ++ ss) ≡ true → (a ≡ []) × (nullable r ≡ true) × (calls ss ≡ true)
no_calls r ss a place is c =
    let right : is_right r a ≡ true = test_of r place a is in
    let none : a ≡ [] = plain_is a ss (plain_of r a right) c in
    (none, implies_of (empties a) (nullable r) (nullable_of r a right) (ap empties none), subst (λ q. calls (q ++ ss) ≡ true) none c)

pub calls_of : (at : ℕ) (ss : List Symbol) (vs : List Part) → Reads false (IsWrong at) ss [] vs → calls ss ≡ true
calls_of at ss vs (grammar.done w) = wrong_calls at ss vs w
calls_of at (Go r ∷ ss) vs (grammar.go place a is reads) =
    let e = no_calls r ss a place is (calls_of at (a ++ ss) vs reads) in
    both (nullable r) (calls ss) e.1 e.2
  where
    both : (b c : Bool) → b ≡ true → c ≡ true → (b && c) ≡ true
    both true c p q = q
    both false c p q = p
calls_of at (Do m ∷ ss) vs (grammar.do_make {ws = ws} w reads) = either (is_call m) (calls ss) (calls_of at ss ws reads)
  where
    either : (b c : Bool) → c ≡ true → (b || c) ≡ true
    either true c q = refl
    either false c q = q

-- a rule that leads to a wrong call without a token reads nothing
pub go_none : (at : ℕ) (r : Rule) (ss a : List Symbol) (vs : List Part) (place : ℕ) → nth (rules r) place ≡ Some a → Reads false (IsWrong at) (a ++ ss) [] vs → a ≡ []
go_none at r ss a vs place is reads = (no_calls r ss a place is (calls_of at (a ++ ss) vs reads)).0

pub args_of_wrong : (at : ℕ) (r : Rule) (ss : List Symbol) (vs : List Part) → Good (Go r ∷ ss) → Reads false (IsWrong at) (Go r ∷ ss) [] vs → (r ≡ rule.Args) × Reads false (IsWrong at) ss [] vs
args_of_wrong at r ss vs good (grammar.done w) = absurd w
args_of_wrong at r ss vs good (grammar.go place a is reads) =
    let e = no_calls r ss a place is (calls_of at (a ++ ss) vs reads) in
    (args_is r (good.1 e.2), subst (λ q. Reads false (IsWrong at) (q ++ ss) [] vs) e.0 reads)

abbrev pub opened : List Symbol
opened = Take kind.Open Skip ∷ Go rule.Items ∷ Take kind.Close Skip ∷ []

pub args_looks : (h : Option Kind) (a : List Symbol) → nth (rules rule.Args) (choice rule.Args h) ≡ Some a → (a ≡ []) ⊎ ((h ≡ Some kind.Open) × (a ≡ opened))
args_looks (Some kind.Open) a e = let same : opened ≡ a = cc in inr (refl, sym same)
args_looks None a e = let same : [] ≡ a = cc in inl (sym same)
args_looks (Some _) a e = let same : [] ≡ a = cc in inl (sym same)

pub args_some : (h : Option Kind) → nth (rules rule.Args) (choice rule.Args h) ≡ None → ⊥
args_some None e = cc
args_some (Some kind.Open) e = cc
args_some (Some _) e = cc
