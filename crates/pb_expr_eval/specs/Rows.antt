-- Worked examples, from texts: each is proved by computing both sides.
use Rattle.std.specs.Prelude.{◌≡◌, pos, negsuc, false, List, [], ◌∷◌, Option, Some, None, Ok, Err, codes, refl}
use Rattle.std.specs.Fmt.{digits}
use Rattle.pb_value.specs.Datum.{boolean, int, text, list, dict, items_of, members_of}
use Rattle.pb_expr_syntax.specs.Computed.{tree_of, tree_of_tokens}
use Rattle.pb_expr_syntax.specs.Tree.{Tree}
use Rattle.pb_layers.specs.Scope.{Map, layers}
use Rattle.pb_template.specs.Computed.{template_of}
use Rattle.pb_template.specs.declared.template.Part.{Part}
use Rattle.pb_operators.specs.declared.fault.EvalFault.TheVariants.{Undefined, WrongKind, Overflow, TooLarge, BadTemplate}
use Rattle.pb_operators.specs.Values.{Value}
use Rattle.pb_expr_eval.specs.Messages.{message_of}
use Rattle.pb_expr_eval.specs.Rendering.{measured}
use Rattle.pb_expr_eval.specs.Scoped.{eval_of, render_of, rendered_of}

abbrev of_tree : List Map → Option Tree → Option Value
of_tree scope None = None
of_tree scope (Some t) = Some (eval_of scope t)

abbrev of_parts : List Map → Option (List Part) → Option Value
of_parts scope None = None
of_parts scope (Some parts) = Some (render_of scope parts)

-- the variables of a play and, above them, those that were set
abbrev play : Map → Map → List Map
play vars set = layers [] [] [] [] vars [] [] [] set [] []

default_and_join : of_tree [] (tree_of (codes "x | default('n') ~ '!'")) ≡ Some (Ok (text (codes "n!")))
unfolding tree_of tree_of_tokens eval_of measured
default_and_join = refl

sum_and_text : of_tree [] (tree_of (codes "1 + 2 ~ '3'")) ≡ Some (Err WrongKind)
unfolding digits tree_of tree_of_tokens eval_of measured
sum_and_text = refl

joined_list : of_tree [] (tree_of (codes "[1, 'a'] | join('-')")) ≡ Some (Ok (text (codes "1-a")))
unfolding digits tree_of tree_of_tokens eval_of measured
joined_list = refl

text_as_number : of_tree [] (tree_of (codes "'-7' | int - 1")) ≡ Some (Ok (int (negsuc 7)))
unfolding tree_of tree_of_tokens eval_of measured
text_as_number = refl

too_large_a_sum : of_tree [] (tree_of (codes "9223372036854775807 + 1")) ≡ Some (Err Overflow)
unfolding tree_of tree_of_tokens eval_of measured
too_large_a_sum = refl

right_side_unread : of_tree [] (tree_of (codes "false and x")) ≡ Some (Ok (boolean false))
unfolding tree_of tree_of_tokens eval_of measured
right_side_unread = refl

unknown_name : of_tree [] (tree_of (codes "x")) ≡ Some (Err (Undefined (codes "x")))
unfolding tree_of tree_of_tokens eval_of measured
unknown_name = refl

single_expression : of_parts [] (template_of (codes "{{ 1 + 1 }}")) ≡ Some (Ok (int (pos 2)))
unfolding template_of tree_of tree_of_tokens render_of measured
single_expression = refl

text_and_expression : of_parts [] (template_of (codes "n={{ 1 + 1 }}")) ≡ Some (Ok (text (codes "n=2")))
unfolding digits template_of tree_of tree_of_tokens render_of measured
text_and_expression = refl

truth_and_text : of_parts [] (template_of (codes "{{ true }}x")) ≡ Some (Ok (text (codes "Truex")))
unfolding template_of tree_of tree_of_tokens render_of measured
truth_and_text = refl

-- a variable that leads to itself
cycle : of_tree (play ((codes "a", text (codes "{{ b }}")) ∷ (codes "b", text (codes "{{ a }}")) ∷ []) []) (tree_of (codes "a")) ≡ Some (Err TooLarge)
unfolding template_of tree_of tree_of_tokens eval_of measured
cycle = refl

rendered_variable : of_tree (play ((codes "a", text (codes "{{ b }}!")) ∷ (codes "b", int (pos 1)) ∷ []) []) (tree_of (codes "a")) ≡ Some (Ok (text (codes "1!")))
unfolding digits template_of tree_of tree_of_tokens eval_of measured
rendered_variable = refl

-- what was set is a value already
set_text_unrendered : of_tree (play [] ((codes "a", text (codes "{{ b }}")) ∷ [])) (tree_of (codes "a")) ≡ Some (Ok (text (codes "{{ b }}")))
unfolding template_of tree_of tree_of_tokens eval_of measured
set_text_unrendered = refl

bad_template : of_tree (play ((codes "a", text (codes "{{ b")) ∷ []) []) (tree_of (codes "a")) ≡ Some (Err BadTemplate)
unfolding template_of tree_of tree_of_tokens eval_of measured
bad_template = refl

-- texts in a list and in a dict are rendered, its names aren't, and an expression alone keeps its kind
rendered_value :
    rendered_of (play ((codes "a", int (pos 1)) ∷ []) []) (list (items_of (text (codes "{{ a }}") ∷ text (codes "a") ∷ dict (members_of ((codes "{{ a }}", text (codes "{{ a }}!")) ∷ [])) ∷ [])))
    ≡ Ok (list (items_of (int (pos 1) ∷ text (codes "a") ∷ dict (members_of ((codes "{{ a }}", text (codes "1!")) ∷ [])) ∷ [])))
unfolding digits template_of tree_of tree_of_tokens rendered_of measured
rendered_value = refl

first_fault : rendered_of [] (list (items_of (text (codes "{{ a }}") ∷ text (codes "{{ b") ∷ []))) ≡ Err (Undefined (codes "a"))
unfolding template_of tree_of tree_of_tokens rendered_of measured
first_fault = refl

undefined_message : message_of (Undefined (codes "a")) ≡ codes "'a' is undefined"
undefined_message = refl
