-- The parser's state, and its one next step.
use Rattle.std.specs.Prelude.{◌≡◌, ℕ, ◌+◌, ◌++◌, List, [], ◌∷◌, Option, Some, None, drop}
use Rattle.pb_expr_syntax.specs.declared.grammar.Kind.{Kind}
use Rattle.pb_expr_syntax.specs.declared.grammar.How.{How}
use Rattle.pb_expr_syntax.specs.declared.grammar.Symbol.{Symbol}
use Rattle.pb_expr_syntax.specs.declared.grammar.Symbol.TheVariants.{Take, Go, Do}
use Rattle.pb_expr_syntax.specs.Grammar.{Tok, Part, rules, nth, taken, made}
use Rattle.pb_expr_syntax.specs.Choice.{choice}

-- the kind of the next token
abbrev pub head_of : List Tok → Option Kind
head_of [] = None
head_of (t ∷ ts) = Some t.kind

-- how many tokens were read, what is still wanted, the next first, and the parts that were made, the last first
pub record State : Type 0 where
  pub next : ℕ
  pub symbols : List Symbol
  pub parts : List Part

-- the state once an alternative is wanted next, once a token is taken, and once something is made of parts
abbrev pub went : List Symbol → State → State
went a s = record { next = s.next; symbols = a ++ s.symbols; parts = s.parts }

abbrev pub took : State → List Part → State
took s parts = record { next = s.next + 1; symbols = s.symbols; parts = parts }

abbrev pub built : State → List Part → State
built s parts = record { next = s.next; symbols = s.symbols; parts = parts }

-- from old, the first of these tokens is taken, and that leads to new: it is of this kind, and can be taken so
abbrev pub TakesTo : List Tok → Kind → How → State → State → Type 0
TakesTo [] k how old new = ⊥
TakesTo (t ∷ ts) k how old new = (t.kind ≡ k) × (parts : List Part) × (taken how t old.parts ≡ Some parts) × (new ≡ took old parts)

-- from old, the symbol leads to new; it is itself no longer wanted in old
abbrev pub StepsTo : List Tok → Symbol → State → State → Type 0
StepsTo tokens (Go r) old new = (a : List Symbol) × (nth (rules r) (choice r (head_of (drop old.next tokens))) ≡ Some a) × (new ≡ went a old)
StepsTo tokens (Take k how) old new = TakesTo (drop old.next tokens) k how old new
StepsTo tokens (Do m) old new = (parts : List Part) × (made m old.parts ≡ Some parts) × (new ≡ built old parts)

-- no token is left, or the next one is of another kind, or can't be taken so
abbrev pub CannotTake : List Tok → Kind → How → State → Type 0
CannotTake [] k how old = Unit {0}
CannotTake (t ∷ ts) k how old = t.kind ≡ k → taken how t old.parts ≡ None

-- From old, the symbol leads nowhere.
abbrev pub Stops : List Tok → Symbol → State → Type 0
Stops tokens (Go r) old = nth (rules r) (choice r (head_of (drop old.next tokens))) ≡ None
Stops tokens (Take k how) old = CannotTake (drop old.next tokens) k how old
Stops tokens (Do m) old = made m old.parts ≡ None
