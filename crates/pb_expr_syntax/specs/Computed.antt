-- The tree that a text spells, and the first fault of a text that spells none, computed: what crates above build on where they
-- speak of what a text means. `Expr::parse` shows that they are the one tree that the text spells and its one first fault. At
-- each rule the next token asks for one alternative.
use Rattle.std.specs.Prelude.{ℕ, zero, suc, ◌+◌, ◌*◌, nat_le, List, [], ◌∷◌, Option, Some, None, Result, Ok, Err, length, drop, if◌then◌else◌}
use Rattle.std.specs.Option.{option_map}
use Rattle.pb_expr_syntax.specs.declared.fault.ExprFault.{ExprFault}
use Rattle.pb_expr_syntax.specs.declared.fault.ExprFault.TheVariants as fault
use Rattle.pb_expr_syntax.specs.declared.parser.Refusal.{Refusal}
use Rattle.pb_expr_syntax.specs.declared.parser.Refusal.TheVariants.{Unexpected, End}
use Rattle.pb_expr_syntax.specs.Spelling.{fault_of}
use Rattle.pb_expr_syntax.specs.declared.grammar.How.{How}
use Rattle.pb_expr_syntax.specs.declared.grammar.Kind.{Kind}
use Rattle.pb_expr_syntax.specs.declared.grammar.Symbol.{Symbol}
use Rattle.pb_expr_syntax.specs.declared.grammar.Symbol.TheVariants.{Take, Go, Do}
use Rattle.pb_expr_syntax.specs.Choice.{choice}
use Rattle.pb_expr_syntax.specs.Depth.{depth}
use Rattle.pb_expr_syntax.specs.Grammar.{Tok, Part, One, Many, Called, begin, rules, nth, taken, made}
use Rattle.pb_expr_syntax.specs.Looks.{is_kind}
use Rattle.pb_expr_syntax.specs.Machine.{State, head_of, went, took, built}
use Rattle.pb_expr_syntax.specs.Tokens.{tokens_of}
use Rattle.pb_expr_syntax.specs.Tree.{Tree}

-- the state once the first of these tokens is taken; none where there is no token, it is of another kind, or can't be taken so
abbrev pub taken_from : Kind → How → State → List Tok → Option State
taken_from k how old [] = None
taken_from k how old (t ∷ ts) = if is_kind t.kind k then option_map (took old) (taken how t old.parts) else None

-- where a symbol leads
abbrev pub stepped : List Tok → Symbol → State → Option State
stepped tokens (Go r) old = option_map (λ a. went a old) (nth (rules r) (choice r (head_of (drop old.next tokens))))
stepped tokens (Take k how) old = taken_from k how old (drop old.next tokens)
stepped tokens (Do m) old = option_map (built old) (made m old.parts)

-- the one tree that is left once no symbol is
abbrev pub sole : List Tok → List Part → Option Tree
sole [] (One t ∷ []) = Some t
sole _ _ = None

-- the state without its first symbol
abbrev pub behind : State → List Symbol → State
behind s ss = record { next = s.next; symbols = ss; parts = s.parts }

-- as go says, from a state that is there; no tree where there is none
abbrev pub goes : (State → Option Tree) → Option State → Option Tree
goes go None = None
goes go (Some s) = go s

-- by the first symbol, and then as go says
abbrev pub first_with : (State → Option Tree) → List Tok → State → List Symbol → Option Tree
first_with go tokens s [] = sole (drop s.next tokens) s.parts
first_with go tokens s (x ∷ ss) = goes go (stepped tokens x (behind s ss))

-- where the symbols lead in that many steps
abbrev pub run : ℕ → List Tok → State → Option Tree
run zero tokens s = None
run (suc n) tokens s = first_with (run n tokens) tokens s s.symbols

-- there are fewer steps than 32 for each token and 32 more
unfoldable pub tree_of_tokens : List Tok → Option Tree
tree_of_tokens tokens = run (32 * length tokens + 32) tokens (record { next = 0; symbols = begin; parts = [] })

-- the tree, if it has at most 64 levels
abbrev pub not_deeper : Option Tree → Option Tree
not_deeper None = None
not_deeper (Some t) = if nat_le (depth t) 64 then Some t else None

-- the tree that a text's tokens spell, if it has at most 64 levels; none where the text has a bad token
abbrev pub tree_of_result : Result (List Tok) ExprFault → Option Tree
tree_of_result (Err e) = None
tree_of_result (Ok tokens) = not_deeper (tree_of_tokens tokens)

-- the tree of a text, if it spells one
unfoldable pub tree_of : List ℕ → Option Tree
tree_of text = if nat_le (length text) 4096 then tree_of_result (tokens_of text) else None

-- the fault where a symbol leads nowhere: at the next token or the end, or at the name of the filter
abbrev pub pointed : List Tok → Refusal
pointed [] = End
pointed (t ∷ ts) = Unexpected t.at

-- the fault at the name of the filter that the last parts are a call of, or at the end where they are no call
abbrev pub called : List Part → Refusal
called (Many xs ∷ Called f at ∷ parts) = Unexpected at
called _ = End

-- the fault of this symbol, where it leads nowhere from this state
abbrev pub stopped : List Tok → Symbol → State → Refusal
stopped tokens (Go r) old = pointed (drop old.next tokens)
stopped tokens (Take k how) old = pointed (drop old.next tokens)
stopped tokens (Do m) old = called old.parts

-- the fault once no symbol is left: at the next token, if there is one
abbrev pub left_over : List Tok → Option Refusal
left_over [] = None
left_over (t ∷ ts) = Some (Unexpected t.at)

-- as go says, from a state that is there; where there is none, this fault
abbrev pub stops : (State → Option Refusal) → Refusal → Option State → Option Refusal
stops go e None = Some e
stops go e (Some s) = go s

-- by the first symbol, and then as go says
abbrev pub stops_first : (State → Option Refusal) → List Tok → State → List Symbol → Option Refusal
stops_first go tokens s [] = left_over (drop s.next tokens)
stops_first go tokens s (x ∷ ss) = stops go (stopped tokens x (behind s ss)) (stepped tokens x (behind s ss))

-- where the symbols stop in that many steps
abbrev pub run_to_fault : ℕ → List Tok → State → Option Refusal
run_to_fault zero tokens s = None
run_to_fault (suc n) tokens s = stops_first (run_to_fault n tokens) tokens s s.symbols

unfoldable pub fault_of_tokens : List Tok → Option Refusal
fault_of_tokens tokens = run_to_fault (32 * length tokens + 32) tokens (record { next = 0; symbols = begin; parts = [] })

-- the fault of a tree that has more than 64 levels; none of any other, nor where there is no tree
abbrev pub deeper : Option Tree → Option ExprFault
deeper None = None
deeper (Some t) = if nat_le (depth t) 64 then None else Some fault.TooDeep

-- the first fault of tokens: that of the refusal, if there is one, else that of their tree, if there is one and it is too deep
abbrev pub fault_of_both : Option Refusal → Option Tree → Option ExprFault
fault_of_both (Some refused) o = Some (fault_of refused)
fault_of_both None o = deeper o

-- the first fault of a text that was cut into tokens, or the fault of its first bad one
abbrev pub fault_of_result : Result (List Tok) ExprFault → Option ExprFault
fault_of_result (Err e) = Some e
fault_of_result (Ok tokens) = fault_of_both (fault_of_tokens tokens) (tree_of_tokens tokens)

-- the first fault of a text, if it spells no tree
unfoldable pub first_fault_of : List ℕ → Option ExprFault
first_fault_of text = if nat_le (length text) 4096 then fault_of_result (tokens_of text) else Some fault.TooDeep
