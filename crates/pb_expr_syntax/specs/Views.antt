-- What the parser's values stand for.
use Rattle.std.specs.Prelude.{◌≡◌, ℕ, List, [], ◌∷◌, ◌++◌, length, drop, ◌⊎◌, false}
use Rattle.pb_expr_syntax.specs.declared.grammar.Symbol.{Symbol}
use Rattle.pb_expr_syntax.specs.declared.parser.Part as code
use Rattle.pb_expr_syntax.specs.declared.parser.Machine.{Machine}
use Rattle.pb_expr_syntax.specs.declared.parser.Refusal.{Refusal}
use Rattle.pb_expr_syntax.specs.declared.parser.Refusal.TheVariants.{Unexpected, End, Memory}
use Rattle.pb_expr_syntax.specs.Grammar as grammar
use Rattle.pb_expr_syntax.specs.Grammar.{Tok}
use Rattle.pb_expr_syntax.specs.declared.grammar.Make.{Make}
use Rattle.pb_expr_syntax.specs.declared.grammar.Make.TheVariants.{Filtered}
use Rattle.pb_expr_syntax.specs.declared.grammar.Symbol.TheVariants.{Do}
use Rattle.pb_expr_syntax.specs.Machine.{State, Stops}

abbrev pub part_of : code.Part → grammar.Part
part_of (code.TheVariants.One x) = grammar.One x
part_of (code.TheVariants.Many xs) = grammar.Many xs
part_of (code.TheVariants.Called f at) = grammar.Called f at

-- the last one first
abbrev pub parts_onto : List grammar.Part → List code.Part → List grammar.Part
parts_onto below [] = below
parts_onto below (x ∷ xs) = parts_onto (part_of x ∷ below) xs

-- the same of symbols
abbrev pub symbols_onto : List Symbol → List Symbol → List Symbol
symbols_onto below [] = below
symbols_onto below (x ∷ xs) = symbols_onto (x ∷ below) xs

-- the state of a parser, whose stacks have their last on top
abbrev pub state_of : Machine → State
state_of m = record { next = m.next; symbols = symbols_onto [] m.symbols.items; parts = parts_onto [] m.parts.items }

-- P, unless memory ran out
abbrev pub Faults : Refusal → Type 0 → Type 0
Faults (Unexpected at) P = P
Faults End P = P
Faults Memory P = Unit {0}

-- the last part is no tree, or there is no part
abbrev pub NotOne : List grammar.Part → Type 0
NotOne (grammar.One x ∷ ps) = ⊥
NotOne _ = Unit {0}

-- the parts are not one tree alone
abbrev pub NotSole : List grammar.Part → Type 0
NotSole (grammar.One x ∷ []) = ⊥
NotSole _ = Unit {0}

-- the last part is not the trees of a list, or there is no part
abbrev pub NotMany : List grammar.Part → Type 0
NotMany (grammar.Many xs ∷ ps) = ⊥
NotMany _ = Unit {0}

-- the last part is no filter, or there is no part
abbrev pub NotCalled : List grammar.Part → Type 0
NotCalled (grammar.Called f at ∷ ps) = ⊥
NotCalled _ = Unit {0}

-- the fault names the next token, or the end where there is none
abbrev pub Points : Refusal → List Tok → Type 0
Points (Unexpected at) (t ∷ ts) = at ≡ t.at
Points (Unexpected at) [] = ⊥
Points End [] = Unit {0}
Points End (t ∷ ts) = ⊥
Points Memory ts = ⊥

-- Once no symbol is left, a token is, or the parts are not just one tree.
abbrev pub StopsAtEnd : Refusal → List Tok → List grammar.Part → Type 0
StopsAtEnd e (t ∷ ts) parts = Points e (t ∷ ts)
StopsAtEnd e [] parts = NotSole parts

-- a fault at a filter names it
abbrev pub CallFault : Refusal → Make → List grammar.Part → Type 0
CallFault Memory m parts = Unit {0}
CallFault e Filtered (grammar.Many xs ∷ grammar.Called f at ∷ grammar.One x ∷ parts) = (e ≡ Unexpected at) × (grammar.takes f (length xs) ≡ false)
CallFault e m parts = Unit {0}

-- From the state, the symbol leads nowhere, and the fault says where.
abbrev pub StopsWith : List Tok → Symbol → State → Refusal → Type 0
StopsWith tokens symbol old Memory = Unit {0}
StopsWith tokens (Do m) old e = Stops tokens (Do m) old × CallFault e m old.parts
StopsWith tokens symbol old e = Stops tokens symbol old × Points e (drop old.next tokens)

-- Between the front and the rest, the fault names the filter that ends there with a wrong number of arguments; where there is
-- none, it names the next token or the end.
abbrev pub Names : Refusal → List Tok → List Tok → Type 0
Names e front rest = ((at : ℕ) × (e ≡ Unexpected at) × grammar.WrongCall front at) ⊎ (((at : ℕ) → grammar.WrongCall front at → ⊥) × Points e rest)

-- the first fault: where the longest front that begins an expression ends
abbrev pub Refuses : List Tok → Refusal → Type 0
Refuses tokens e = (front : List Tok) × (rest : List Tok) × (tokens ≡ front ++ rest) × grammar.Begins front × grammar.IsStuck front rest × Names e front rest
