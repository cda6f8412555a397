-- Worked examples, from texts: each is proved by computing both sides.
use Rattle.std.specs.Prelude.{◌≡◌, ℕ, Bool, true, false, List, [], ◌∷◌, Option, Some, None, Result, Ok, Err, codes, refl}
use Rattle.pb_value.specs.Datum.{int, text}
use Rattle.std.specs.Prelude.{pos}
use Rattle.pb_expr_syntax.specs.Computed.{tree_of, tree_of_tokens}
use Rattle.pb_expr_syntax.specs.Tree.{Tree}
use Rattle.pb_expr_eval.specs.FromTemplate.{template_of}
use Rattle.pb_layers.specs.Scope.{Map, layers}
use Rattle.pb_expr_eval.specs.Rendering.{measured}
use Rattle.pb_expr_eval.specs.Scoped.{eval_of}
use Rattle.pb_operators.specs.declared.fault.EvalFault.{EvalFault}
use Rattle.pb_operators.specs.declared.fault.EvalFault.TheVariants.{Undefined}
use Rattle.pb_conditions.specs.Conditions.{holds}

-- the trees of texts, where each of them is an expression
abbrev with_tree : Option Tree → Option (List Tree) → Option (List Tree)
with_tree None rest = None
with_tree (Some t) None = None
with_tree (Some t) (Some ts) = Some (t ∷ ts)

abbrev trees : List (List ℕ) → Option (List Tree)
trees [] = Some []
trees (s ∷ ss) = with_tree (tree_of s) (trees ss)

abbrev holding : List Map → Option (List Tree) → Option (Result Bool EvalFault)
holding scope None = None
holding scope (Some ts) = Some (holds scope ts)

-- the variables of a play
abbrev play : Map → List Map
play vars = layers [] [] [] [] vars [] [] [] [] [] []

no_condition : holds [] [] ≡ Ok true
no_condition = refl

all_hold : holding (play ((codes "n", int (pos 3)) ∷ [])) (trees (codes "n == 3" ∷ codes "'x'" ∷ codes "[0]" ∷ [])) ≡ Some (Ok true)
unfolding tree_of tree_of_tokens eval_of measured
all_hold = refl

-- what stands behind the first that doesn't hold isn't read
cut_at_false : holding [] (trees (codes "true" ∷ codes "0" ∷ codes "x" ∷ [])) ≡ Some (Ok false)
unfolding tree_of tree_of_tokens eval_of measured
cut_at_false = refl

undefined_name : holding [] (trees (codes "true" ∷ codes "x" ∷ codes "0" ∷ [])) ≡ Some (Err (Undefined (codes "x")))
unfolding tree_of tree_of_tokens eval_of measured
undefined_name = refl

-- a text counts as true, whatever it says
text_false : holding (play ((codes "t", text (codes "false")) ∷ [])) (trees (codes "t" ∷ [])) ≡ Some (Ok true)
unfolding tree_of tree_of_tokens eval_of measured template_of
text_false = refl
