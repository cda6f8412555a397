-- How a template's text is cut into plain pieces and expressions.
use Rattle.std.specs.Prelude.{ℕ, zero, suc, ◌+◌, ◌-◌, Bool, false, ◌==◌, ◌&&◌, ◌||◌, List, [], ◌∷◌, Option, Some, None, option_map, Result, Ok, Err, take, drop, if◌then◌else◌}
use Rattle.pb_expr_syntax.specs.declared.fault.ExprFault.{ExprFault}
use Rattle.pb_expr_syntax.specs.declared.fault.ExprFault.TheVariants.{Unexpected, End}
use Rattle.pb_template.specs.declared.pieces.Front.{Front}
use Rattle.pb_template.specs.declared.pieces.Piece.{Piece}
use Rattle.pb_template.specs.declared.pieces.Piece.TheVariants.{Plain, Code}
use Rattle.pb_template.specs.declared.pieces.State.{State}
use Rattle.pb_template.specs.declared.pieces.State.TheVariants.{Outside, Inside, Escaped}

-- whether bytes begin with these
abbrev pub begins_one : ℕ → List ℕ → Bool
begins_one x [] = false
begins_one x (b ∷ bs) = b == x

abbrev pub begins_two : ℕ → ℕ → List ℕ → Bool
begins_two x y [] = false
begins_two x y (b ∷ bs) = b == x && begins_one y bs

abbrev pub begins_three : ℕ → ℕ → ℕ → List ℕ → Bool
begins_three x y z [] = false
begins_three x y z (b ∷ bs) = b == x && begins_two y z bs

-- `{{` begins an expression
abbrev pub begins_open : List ℕ → Bool
begins_open bs = begins_two 123 123 bs

-- `{{-`, `{%`, `{#` and `-}}` have other meanings in Jinja, and are refused
abbrev pub begins_refused : List ℕ → Bool
begins_refused bs = begins_three 123 123 45 bs || begins_two 123 37 bs || begins_two 123 35 bs || begins_three 45 125 125 bs

-- what ends a plain piece: the beginning of an expression, or what is refused
abbrev pub begins_special : List ℕ → Bool
begins_special bs = begins_open bs || begins_refused bs

-- how many bytes stand before the first of these
abbrev pub plain_size : List ℕ → ℕ
plain_size [] = 0
plain_size (b ∷ bs) = if begins_special (b ∷ bs) then 0 else plain_size bs + 1

-- a quote begins and ends a text in an expression; behind a backslash it is a part of the text
abbrev pub moved : State → ℕ → State
moved Outside b = if b == 39 || b == 34 then Inside b else Outside
moved (Inside quote) b = if b == quote then Outside else if b == 92 then Escaped quote else Inside quote
moved (Escaped quote) b = Inside quote

-- `}}` outside of the expression's texts ends it
abbrev pub closes : State → List ℕ → Bool
closes Outside bs = begins_two 125 125 bs
closes _ bs = false

-- how many bytes stand before its end
abbrev pub code_size : State → List ℕ → Option ℕ
code_size s [] = None
code_size s (b ∷ bs) = if closes s (b ∷ bs) then Some 0 else option_map (λ n. n + 1) (code_size (moved s b) bs)

-- the plain piece at the front, up to where an expression begins or something is refused, or to the end
abbrev pub plain_front : List ℕ → Front
plain_front bs = record { piece = Plain (take (plain_size bs) bs); size = plain_size bs }

-- an expression of n bytes between its braces, which are 4 bytes more; where it has no end, the text ends too early
abbrev pub code_with : List ℕ → Option ℕ → Result Front ExprFault
code_with code None = Err End
code_with code (Some n) = Ok (record { piece = Code (take n code); size = n + 4 })

-- the expression at the front, whose braces come first
abbrev pub code_front : List ℕ → Result Front ExprFault
code_front bs = code_with (drop 2 bs) (code_size Outside (drop 2 bs))

-- the piece at the front, which begins at this byte of the whole, and how many bytes it takes with its braces
abbrev pub front_at : ℕ → List ℕ → Result Front ExprFault
front_at at bs = if begins_refused bs then Err (Unexpected at) else if begins_open bs then code_front bs else Ok (plain_front bs)

-- a text is cut into its pieces: all of them, or those before the first place at which no piece can begin, and the fault there
abbrev pub Pieces : Type 0
Pieces = List Piece × Option ExprFault

-- one piece before others
abbrev pub before : Piece → Pieces → Pieces
before p rest = (p ∷ rest.0, rest.1)

-- the piece at the front and those behind its size; where there is a fault, no piece and the fault
abbrev pub pieces_by : Result Front ExprFault → (ℕ → Pieces) → Pieces
pieces_by (Err e) behind = ([], Some e)
pieces_by (Ok f) behind = before f.piece (behind f.size)

-- the pieces behind the next few bytes, which are taken
abbrev pub pieces_from : ℕ → ℕ → List ℕ → Pieces
pieces_from taken at [] = ([], None)
pieces_from (suc taken) at (b ∷ bs) = pieces_from taken (at + 1) bs
pieces_from zero at (b ∷ bs) = pieces_by (front_at at (b ∷ bs)) (λ size. pieces_from (size - 1) (at + 1) bs)

-- all pieces of a text, or those before the first place at which no piece can begin, and the fault there
abbrev pub pieces_of : List ℕ → Pieces
pieces_of text = pieces_from 0 0 text
