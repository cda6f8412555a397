-- Which trees a text spells, and the first fault of a text that spells none.
use Rattle.std.specs.Prelude.{◌≡◌, ℕ, ◌≤◌, ◌<◌, ◌⊎◌, List, Ok, Err, length}
use Rattle.pb_expr_syntax.specs.declared.fault.ExprFault.{ExprFault}
use Rattle.pb_expr_syntax.specs.declared.fault.ExprFault.TheVariants as fault
use Rattle.pb_expr_syntax.specs.declared.parser.Refusal.{Refusal}
use Rattle.pb_expr_syntax.specs.declared.parser.Refusal.TheVariants as refusal
use Rattle.pb_expr_syntax.specs.Tree.{Tree}
use Rattle.pb_expr_syntax.specs.Depth.{depth}
use Rattle.pb_expr_syntax.specs.Grammar.{Tok, Spells}
use Rattle.pb_expr_syntax.specs.Tokens.{tokens_of}
use Rattle.pb_expr_syntax.specs.Views.{Refuses}

-- the text spells the tree: it has no more than 4,096 bytes, its tokens spell the tree, and that has no more than 64 levels
abbrev pub spells : List ℕ → Tree → Type 0
spells text t = (length text ≤ 4096) × (tokens : List Tok) × (tokens_of text ≡ Ok tokens) × Spells tokens t × (depth t ≤ 64)

-- a parser's fault as one of the text
abbrev pub fault_of : Refusal → ExprFault
fault_of (refusal.Unexpected at) = fault.Unexpected at
fault_of refusal.End = fault.End
fault_of refusal.Memory = fault.Memory

-- the first fault: that the text is too long; of its first bad token; of the first token that can't go on, or that the text
-- stops short; that the tree is too deep
abbrev pub FirstFault : List ℕ → ExprFault → Type 0
FirstFault text e =
    ((4096 < length text) × (e ≡ fault.TooDeep))
    ⊎ ((length text ≤ 4096) × (tokens_of text ≡ Err e))
    ⊎ ((length text ≤ 4096) × (tokens : List Tok) × (tokens_of text ≡ Ok tokens) × (refused : Refusal) × Refuses tokens refused × (e ≡ fault_of refused))
    ⊎ ((length text ≤ 4096) × (tokens : List Tok) × (tokens_of text ≡ Ok tokens) × (t : Tree) × Spells tokens t × (64 < depth t) × (e ≡ fault.TooDeep))
