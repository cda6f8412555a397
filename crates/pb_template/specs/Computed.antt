-- The parts of a template's text, and the first fault of a text that has none, computed: what crates above build on where they
-- speak of what a template means. `Template::parse` shows that they are the text's parts, and that a text without parts has none here.
use Rattle.std.specs.Prelude.{ℕ, List, [], ◌∷◌, Option, Some, None}
use Rattle.std.specs.Option.{option_map}
use Rattle.pb_expr_syntax.specs.Computed.{tree_of, first_fault_of}
use Rattle.pb_expr_syntax.specs.Tree.{Tree}
use Rattle.pb_expr_syntax.specs.declared.fault.ExprFault.{ExprFault}
use Rattle.pb_template.specs.declared.pieces.Piece.{Piece}
use Rattle.pb_template.specs.declared.pieces.Piece.TheVariants as piece
use Rattle.pb_template.specs.declared.template.Part.{Part}
use Rattle.pb_template.specs.declared.template.Part.TheVariants as part
use Rattle.pb_template.specs.Pieces.{pieces_of}

-- the part that a piece is: an expression by the tree that it spells
abbrev pub part_in : Piece → Option Part
part_in (piece.Plain s) = Some (part.Plain s)
part_in (piece.Code s) = option_map (λ t. part.Code t) (tree_of s)

-- a part before others, where it and they are there
abbrev pub some_with : Option Part → Option (List Part) → Option (List Part)
some_with None ps = None
some_with (Some p) ps = option_map (λ qs. p ∷ qs) ps

-- the parts that pieces are, if each is one
abbrev pub parts_in : List Piece → Option (List Part)
parts_in [] = Some []
parts_in (p ∷ ps) = some_with (part_in p) (parts_in ps)

-- parts, where there is no fault
abbrev pub unless_bad : Option ExprFault → Option (List Part) → Option (List Part)
unless_bad None parts = parts
unless_bad (Some e) parts = None

-- the parts of a text, if it is a template
unfoldable pub template_of : List ℕ → Option (List Part)
template_of text = unless_bad (pieces_of text).1 (parts_in (pieces_of text).0)

-- the fault of an expression that spells no tree
abbrev pub fault_without : Option Tree → Option ExprFault → Option ExprFault
fault_without None e = e
fault_without (Some t) e = None

-- the fault of a piece that is no part; a plain piece has none
abbrev pub fault_in : Piece → Option ExprFault
fault_in (piece.Plain s) = None
fault_in (piece.Code s) = fault_without (tree_of s) (first_fault_of s)

-- the earlier of two faults, or the one that is there
abbrev pub first_of : Option ExprFault → Option ExprFault → Option ExprFault
first_of None later = later
first_of (Some e) later = Some e

-- the fault of the first piece that is no part
abbrev pub first_among : List Piece → Option ExprFault
first_among [] = None
first_among (p ∷ ps) = first_of (fault_in p) (first_among ps)

-- the first fault of a text that is no template: of its pieces from left to right, and then of the place at which no piece can begin
unfoldable pub template_fault_of : List ℕ → Option ExprFault
template_fault_of text = first_of (first_among (pieces_of text).0) (pieces_of text).1
