-- Which parts a template's text has, and the first fault of a text that has none.
use Rattle.std.specs.Prelude.{◌≡◌, ℕ, ◌⊎◌, List, [], ◌∷◌, ◌++◌, Option, Some, None}
use Rattle.pb_expr_syntax.specs.declared.fault.ExprFault.{ExprFault}
use Rattle.pb_expr_syntax.specs.Tree.{Tree}
use Rattle.pb_expr_syntax.specs.Spelling.{spells, FirstFault}
use Rattle.pb_template.specs.declared.pieces.Piece.{Piece}
use Rattle.pb_template.specs.declared.pieces.Piece.TheVariants as piece
use Rattle.pb_template.specs.declared.template.Part.{Part}
use Rattle.pb_template.specs.declared.template.Part.TheVariants as part
use Rattle.pb_template.specs.Pieces.{pieces_of}

-- a plain piece is a part as it stands, and an expression is a part by the tree that it spells
abbrev pub IsPart : Piece → Part → Type 0
IsPart (piece.Plain s) (part.Plain t) = s ≡ t
IsPart (piece.Code s) (part.Code t) = spells s t
IsPart _ _ = ⊥

-- each piece is the part at its place, and there are as many parts as pieces
abbrev pub AreParts : List Piece → List Part → Type 0
AreParts [] [] = Unit {0}
AreParts (x ∷ xs) (y ∷ ys) = IsPart x y × AreParts xs ys
AreParts _ _ = ⊥

-- the text has these parts
abbrev pub IsTemplate : List ℕ → List Part → Type 0
IsTemplate text parts = ((pieces_of text).1 ≡ None) × AreParts (pieces_of text).0 parts

-- the piece is an expression with this first fault
abbrev pub IsBad : Piece → ExprFault → Type 0
IsBad (piece.Plain s) e = ⊥
IsBad (piece.Code s) e = FirstFault s e

-- the first piece that is no part has this fault
abbrev pub HasBad : List Piece → ExprFault → Type 0
HasBad pieces e = (front : List Piece) × (bad : Piece) × (rest : List Piece) × (parts : List Part) × (pieces ≡ front ++ bad ∷ rest) × AreParts front parts × IsBad bad e

-- the first fault in the order of the text: of the first expression that has one, or, where all pieces before it are parts, of the place
-- at which no piece can begin
abbrev pub FirstBad : List ℕ → ExprFault → Type 0
FirstBad text e = HasBad (pieces_of text).0 e ⊎ ((parts : List Part) × AreParts (pieces_of text).0 parts × ((pieces_of text).1 ≡ Some e))

-- the one expression of a text that is just an expression
abbrev pub single_of : List Part → Option Tree
single_of (part.Code t ∷ []) = Some t
single_of _ = None
