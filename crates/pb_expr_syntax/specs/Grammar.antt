-- The grammar of expressions, and what a list of tokens spells. It is the part of Jinja's expressions ("Template Designer
-- Documentation", section "Expressions") that conditions and templates have here.
use Rattle.std.specs.Prelude.{◌≡◌, ℕ, zero, suc, ◌++◌, ◌||◌, nat_eq, Bool, true, false, if◌then◌else◌, List, [], ◌∷◌, Option, Some, None, codes, nat_le, length}
use Rattle.std.specs.Str.{bytes_eq}
use Rattle.pb_expr_syntax.specs.declared.tree.Op.TheVariants as op
use Rattle.pb_expr_syntax.specs.declared.tree.Filter.{Filter}
use Rattle.pb_expr_syntax.specs.declared.tree.Filter.TheVariants as filter
use Rattle.pb_expr_syntax.specs.declared.token.Token.{Token}
use Rattle.pb_expr_syntax.specs.declared.grammar.Kind.{Kind}
use Rattle.pb_expr_syntax.specs.declared.grammar.Kind.TheVariants as kind
use Rattle.pb_expr_syntax.specs.declared.grammar.How.{How}
use Rattle.pb_expr_syntax.specs.declared.grammar.How.TheVariants.{Skip, Leaf, Call, Member, Defined}
use Rattle.pb_expr_syntax.specs.declared.grammar.Rule.{Rule}
use Rattle.pb_expr_syntax.specs.declared.grammar.Rule.TheVariants as rule
use Rattle.pb_expr_syntax.specs.declared.grammar.Make.{Make}
use Rattle.pb_expr_syntax.specs.declared.grammar.Make.TheVariants as make
use Rattle.pb_expr_syntax.specs.declared.grammar.Symbol.{Symbol}
use Rattle.pb_expr_syntax.specs.declared.grammar.Symbol.TheVariants.{Take, Go, Do}
use Rattle.pb_expr_syntax.specs.Tree as tree
use Rattle.pb_expr_syntax.specs.Tree.{Tree, trees_of}

-- a token: its kind, the byte at which it begins, its word or content, its number
abbrev pub Tok : Type 0
Tok = Token

-- The grammar: of each rule, its alternatives. Take reads a token, Do makes a part of the last ones.
abbrev pub rules : Rule → List (List Symbol)
rules rule.Expr = (Go rule.Or ∷ []) ∷ []
rules rule.Or = (Go rule.And ∷ Go rule.Ors ∷ []) ∷ []
rules rule.Ors = (Take kind.Or Skip ∷ Go rule.And ∷ Do (make.Binary op.Or) ∷ Go rule.Ors ∷ []) ∷ [] ∷ []
rules rule.And = (Go rule.Not ∷ Go rule.Ands ∷ []) ∷ []
rules rule.Ands = (Take kind.And Skip ∷ Go rule.Not ∷ Do (make.Binary op.And) ∷ Go rule.Ands ∷ []) ∷ [] ∷ []
rules rule.Not = (Take kind.Not Skip ∷ Go rule.Not ∷ Do make.Inverted ∷ []) ∷ (Go rule.Cmp ∷ []) ∷ []
rules rule.Cmp = (Go rule.Sum ∷ Go rule.Compared ∷ []) ∷ []
rules rule.Compared = (Take kind.Equal Skip ∷ Go rule.Sum ∷ Do (make.Binary op.Equal) ∷ []) ∷ (Take kind.NotEqual Skip ∷ Go rule.Sum ∷ Do (make.Binary op.NotEqual) ∷ []) ∷ (Take kind.Less Skip ∷ Go rule.Sum ∷ Do (make.Binary op.Less) ∷ []) ∷ (Take kind.AtMost Skip ∷ Go rule.Sum ∷ Do (make.Binary op.AtMost) ∷ []) ∷ (Take kind.Greater Skip ∷ Go rule.Sum ∷ Do (make.Binary op.Greater) ∷ []) ∷ (Take kind.AtLeast Skip ∷ Go rule.Sum ∷ Do (make.Binary op.AtLeast) ∷ []) ∷ (Take kind.In Skip ∷ Go rule.Sum ∷ Do (make.Binary op.In) ∷ []) ∷ (Take kind.Not Skip ∷ Take kind.In Skip ∷ Go rule.Sum ∷ Do (make.Binary op.NotIn) ∷ []) ∷ [] ∷ []
rules rule.Sum = (Go rule.Cat ∷ Go rule.Sums ∷ []) ∷ []
rules rule.Sums = (Take kind.Plus Skip ∷ Go rule.Cat ∷ Do (make.Binary op.Plus) ∷ Go rule.Sums ∷ []) ∷ (Take kind.Minus Skip ∷ Go rule.Cat ∷ Do (make.Binary op.Minus) ∷ Go rule.Sums ∷ []) ∷ [] ∷ []
rules rule.Cat = (Go rule.Unary ∷ Go rule.Cats ∷ []) ∷ []
rules rule.Cats = (Take kind.Tilde Skip ∷ Go rule.Unary ∷ Do (make.Binary op.Tilde) ∷ Go rule.Cats ∷ []) ∷ [] ∷ []
rules rule.Unary = (Go rule.Signed ∷ Go rule.Filters ∷ []) ∷ []
rules rule.Signed = (Take kind.Minus Skip ∷ Go rule.Signed ∷ Do make.Negated ∷ []) ∷ (Go rule.Post ∷ []) ∷ []
rules rule.Filters = (Take kind.Bar Skip ∷ Take kind.Name Call ∷ Do make.NoItems ∷ Go rule.Args ∷ Do make.Filtered ∷ Go rule.Filters ∷ []) ∷ (Take kind.Is Skip ∷ Go rule.Presence ∷ Go rule.Filters ∷ []) ∷ [] ∷ []
rules rule.Presence = (Take kind.Not Skip ∷ Take kind.Name Defined ∷ Do (make.Present false) ∷ []) ∷ (Take kind.Name Defined ∷ Do (make.Present true) ∷ []) ∷ []
rules rule.Args = (Take kind.Open Skip ∷ Go rule.Items ∷ Take kind.Close Skip ∷ []) ∷ [] ∷ []
rules rule.Items = (Go rule.Expr ∷ Do make.Item ∷ Go rule.More ∷ []) ∷ [] ∷ []
rules rule.More = (Take kind.Comma Skip ∷ Go rule.Expr ∷ Do make.Item ∷ Go rule.More ∷ []) ∷ [] ∷ []
rules rule.Post = (Go rule.Atom ∷ Go rule.Tails ∷ []) ∷ []
rules rule.Tails = (Take kind.Dot Skip ∷ Go rule.Word ∷ Go rule.Tails ∷ []) ∷ (Take kind.ListOpen Skip ∷ Go rule.Expr ∷ Take kind.ListClose Skip ∷ Do make.Indexed ∷ Go rule.Tails ∷ []) ∷ [] ∷ []
rules rule.Word = (Take kind.Name Member ∷ []) ∷ (Take kind.And Member ∷ []) ∷ (Take kind.Or Member ∷ []) ∷ (Take kind.Not Member ∷ []) ∷ (Take kind.In Member ∷ []) ∷ (Take kind.Is Member ∷ []) ∷ (Take kind.True Member ∷ []) ∷ (Take kind.False Member ∷ []) ∷ (Take kind.Null Member ∷ []) ∷ []
rules rule.Atom = (Take kind.Digits Leaf ∷ []) ∷ (Take kind.Text Leaf ∷ []) ∷ (Take kind.Name Leaf ∷ []) ∷ (Take kind.True Leaf ∷ []) ∷ (Take kind.False Leaf ∷ []) ∷ (Take kind.Null Leaf ∷ []) ∷ (Take kind.Open Skip ∷ Go rule.Expr ∷ Take kind.Close Skip ∷ []) ∷ (Take kind.ListOpen Skip ∷ Do make.NoItems ∷ Go rule.Items ∷ Take kind.ListClose Skip ∷ Do make.Listed ∷ []) ∷ []

-- a part: a tree, the trees of a list, or a filter with where its name stands
pub data Part : Type 0 where
  One : Tree → Part
  Many : List Tree → Part
  Called : Filter → ℕ → Part

-- the filter of this name, if there is one
abbrev pub filter_of : List ℕ → Option Filter
filter_of name =
    if bytes_eq name (codes "default") then Some filter.Default else
    if bytes_eq name (codes "length") then Some filter.Length else
    if bytes_eq name (codes "bool") then Some filter.Bool else
    if bytes_eq name (codes "int") then Some filter.Int else
    if bytes_eq name (codes "join") then Some filter.Join else None

-- whether a filter takes as many arguments
abbrev pub takes : Filter → ℕ → Bool
takes filter.Default n = nat_eq n 1 || nat_eq n 2
takes filter.Join n = nat_le n 1
takes filter.Length n = nat_eq n 0
takes filter.Bool n = nat_eq n 0
takes filter.Int n = nat_eq n 0

-- what a token stands for by itself
abbrev pub leaf : Tok → Tree
leaf t = elim t.kind [ kind.Digits ↦ tree.Int t.number | kind.Text ↦ tree.Text t.text | kind.True ↦ tree.Truth true | kind.False ↦ tree.Truth false | kind.Null ↦ tree.Null | _ ↦ tree.Name t.text ]

-- the parts with a filter as the last, whose name stands at this byte; none where the name is no filter's
abbrev pub mapped : ℕ → List Part → Option Filter → Option (List Part)
mapped at parts None = None
mapped at parts (Some f) = Some (Called f at ∷ parts)

-- the parts once a token is taken, the last part first
abbrev pub taken : How → Tok → List Part → Option (List Part)
taken Skip t parts = Some parts
taken Leaf t parts = Some (One (leaf t) ∷ parts)
taken Call t parts = mapped t.at parts (filter_of t.text)
taken Member t (One x ∷ parts) = Some (One (tree.Member x t.text) ∷ parts)
taken Member t _ = None
taken Defined t parts = if bytes_eq t.text (codes "defined") then Some parts else None

-- the parts once something is made of the last ones
abbrev pub made : Make → List Part → Option (List Part)
made (make.Binary op) (One y ∷ One x ∷ parts) = Some (One (tree.Binary op x y) ∷ parts)
made make.Inverted (One x ∷ parts) = Some (One (tree.Not x) ∷ parts)
made make.Negated (One x ∷ parts) = Some (One (tree.Negate x) ∷ parts)
made make.NoItems parts = Some (Many [] ∷ parts)
made make.Item (One x ∷ Many xs ∷ parts) = Some (Many (xs ++ x ∷ []) ∷ parts)
made make.Filtered (Many xs ∷ Called f at ∷ One x ∷ parts) = if takes f (length xs) then Some (One (tree.Apply f x (trees_of xs)) ∷ parts) else None
made make.Listed (Many xs ∷ parts) = Some (One (tree.ListOf (trees_of xs)) ∷ parts)
made make.Indexed (One y ∷ One x ∷ parts) = Some (One (tree.Index x y) ∷ parts)
made (make.Present present) (One x ∷ parts) = Some (One (tree.IsDefined x present) ∷ parts)
made _ _ = None

-- the place-th of some
abbrev pub nth : {A : Type 0} → List A → ℕ → Option A
nth [] place = None
nth (x ∷ xs) zero = Some x
nth (x ∷ xs) (suc place) = nth xs place

-- the parts once something is made of the last ones, where a filter may have any number of arguments
abbrev pub made_any : Make → List Part → Option (List Part)
made_any make.Filtered (Many xs ∷ Called f at ∷ One x ∷ parts) = Some (One (tree.Apply f x (trees_of xs)) ∷ parts)
made_any make.Filtered _ = None
made_any m parts = made m parts

-- the same, but a filter may have any number of arguments only where the Bool is true, else as many as it takes
abbrev pub makes : Bool → Make → List Part → Option (List Part)
makes true m parts = made_any m parts
makes false m parts = made m parts

-- By the symbols, the tokens are read one after another, from the parts vs on: a rule goes by any of its alternatives. What is
-- left of the symbols, and the parts, are then as Left says. Where any is true, a filter may have any number of arguments.
pub data Reads (any : Bool) (Left : List Symbol → List Part → Type 0) : List Symbol → List Tok → List Part → Type 0 where
  done : {ss : List Symbol} {vs : List Part} → Left ss vs → Reads any Left ss [] vs
  take : {k : Kind} {how : How} {ss : List Symbol} {t : Tok} {ts : List Tok} {vs ws : List Part} →
      t.kind ≡ k → taken how t vs ≡ Some ws → Reads any Left ss ts ws → Reads any Left (Take k how ∷ ss) (t ∷ ts) vs
  go : {r : Rule} {ss : List Symbol} {ts : List Tok} {vs : List Part} (place : ℕ) (alternative : List Symbol) →
      nth (rules r) place ≡ Some alternative → Reads any Left (alternative ++ ss) ts vs → Reads any Left (Go r ∷ ss) ts vs
  do_make : {m : Make} {ss : List Symbol} {ts : List Tok} {vs ws : List Part} →
      makes any m vs ≡ Some ws → Reads any Left ss ts ws → Reads any Left (Do m ∷ ss) ts vs

-- what is wanted at first: one whole expression
abbrev pub begin : List Symbol
begin = Go rule.Expr ∷ []

-- just the tree is left
abbrev pub IsSole : Tree → List Symbol → List Part → Type 0
IsSole t ss vs = (ss ≡ []) × (vs ≡ One t ∷ [])

-- the tokens spell the tree
abbrev pub Spells : List Tok → Tree → Type 0
Spells tokens t = Reads false (IsSole t) begin tokens []

-- more tokens make a tree of what is left, but for the numbers of arguments
abbrev pub CanEnd : List Symbol → List Part → Type 0
CanEnd ss vs = (more : List Tok) × (t : Tree) × Reads true (IsSole t) ss more vs

-- The tokens begin what is an expression: each filter that ends in them has a right number of arguments, and those behind
-- them may have any.
abbrev pub Begins : List Tok → Type 0
Begins tokens = Reads false CanEnd begin tokens []

-- what is left begins with the end of a filter, whose name stands at this place, with a wrong number of arguments
abbrev pub IsWrong : ℕ → List Symbol → List Part → Type 0
IsWrong at (Do make.Filtered ∷ ss) (Many xs ∷ Called f name ∷ One x ∷ vs) = (name ≡ at) × (takes f (length xs) ≡ false)
IsWrong at _ _ = ⊥

-- the tokens end in a filter, whose name stands at this place, with a wrong number of arguments
abbrev pub WrongCall : List Tok → ℕ → Type 0
WrongCall tokens at = Reads false (IsWrong at) begin tokens []

-- No expression begins with the front and the next token; or, at the end, the front is none.
abbrev pub IsStuck : List Tok → List Tok → Type 0
IsStuck front [] = (t : Tree) → Spells front t → ⊥
IsStuck front (t ∷ rest) = Begins (front ++ t ∷ []) → ⊥
