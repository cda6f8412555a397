-- Worked examples: each is proved by computing both sides.
use Rattle.std.specs.Prelude.{◌≡◌, pos, [], ◌∷◌, Some, None, codes, refl}
use Rattle.pb_expr_syntax.specs.Computed.{tree_of, tree_of_tokens, first_fault_of, fault_of_tokens}
use Rattle.pb_expr_syntax.specs.Tree.{Int, Text, Binary}
use Rattle.pb_expr_syntax.specs.declared.tree.Op.TheVariants.{Plus}
use Rattle.pb_expr_syntax.specs.declared.fault.ExprFault.TheVariants.{Unexpected, End}
use Rattle.pb_template.specs.Computed.{template_of, template_fault_of}
use Rattle.pb_template.specs.Pieces.{pieces_of}
use Rattle.pb_template.specs.declared.pieces.Piece.TheVariants as piece
use Rattle.pb_template.specs.declared.template.Part.TheVariants as part

plain_and_sum : template_of (codes "n={{ 1 + 1 }}") ≡ Some (part.Plain (codes "n=") ∷ part.Code (Binary Plus (Int (pos 1)) (Int (pos 1))) ∷ [])
unfolding template_of tree_of tree_of_tokens
plain_and_sum = refl

open_end : template_of (codes "{{ a") ≡ None
unfolding template_of
open_end = refl

two_names : template_of (codes "{{ a b }}") ≡ None
unfolding template_of tree_of tree_of_tokens
two_names = refl

-- `}}` within a text of an expression is a part of the text
braces_in_text : template_of (codes "{{ '}}' }}") ≡ Some (part.Code (Text (codes "}}")) ∷ [])
unfolding template_of tree_of tree_of_tokens
braces_in_text = refl

-- what Jinja reads in another way is refused at its first byte
trim_before : pieces_of (codes "a{{- 1 }}") ≡ (piece.Plain (codes "a") ∷ [], Some (Unexpected 1))
trim_before = refl

trim_behind : pieces_of (codes "a-}}") ≡ (piece.Plain (codes "a") ∷ [], Some (Unexpected 1))
trim_behind = refl

trim_in_expression : template_of (codes "{{ 1 -}}") ≡ None
unfolding template_of tree_of tree_of_tokens
trim_in_expression = refl

statement : pieces_of (codes "a {% b") ≡ (piece.Plain (codes "a ") ∷ [], Some (Unexpected 2))
statement = refl

comment : pieces_of (codes "a {# b") ≡ (piece.Plain (codes "a ") ∷ [], Some (Unexpected 2))
comment = refl

-- a lone end is text
lone_end : template_of (codes "a }} b") ≡ Some (part.Plain (codes "a }} b") ∷ [])
unfolding template_of
lone_end = refl

-- the fault that stands first is reported: of the expression, whose bytes count from behind its braces, or of what stands before it
expression_first : template_fault_of (codes "{{ 1 + }} {% x %}") ≡ Some End
unfolding template_fault_of tree_of tree_of_tokens first_fault_of fault_of_tokens
expression_first = refl

statement_first : template_fault_of (codes "{% x %} {{ 1 + }}") ≡ Some (Unexpected 0)
unfolding template_fault_of
statement_first = refl

expression_before_open_end : template_fault_of (codes "{{ a b }}{{ a") ≡ Some (Unexpected 3)
unfolding template_fault_of tree_of tree_of_tokens first_fault_of fault_of_tokens
expression_before_open_end = refl

no_fault : template_fault_of (codes "n={{ 1 + 1 }}") ≡ None
unfolding template_fault_of tree_of tree_of_tokens
no_fault = refl
