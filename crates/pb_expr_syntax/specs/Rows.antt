-- Worked examples: each is proved by computing both sides.
use Rattle.std.specs.Prelude.{◌≡◌, ℕ, ℤ, pos, List, [], ◌∷◌, Ok, Err, Some, None, codes, refl, false}
use Rattle.pb_expr_syntax.specs.Computed.{tree_of, tree_of_tokens, first_fault_of, fault_of_tokens}
use Rattle.pb_expr_syntax.specs.declared.fault.ExprFault.TheVariants.{Unexpected, End, NumberTooLarge}
use Rattle.pb_expr_syntax.specs.declared.grammar.Kind.{Kind}
use Rattle.pb_expr_syntax.specs.declared.grammar.Kind.TheVariants as kind
use Rattle.pb_expr_syntax.specs.declared.token.Token.{Token}
use Rattle.pb_expr_syntax.specs.declared.tree.Filter.TheVariants as filter
use Rattle.pb_expr_syntax.specs.declared.tree.Op.TheVariants as op
use Rattle.pb_expr_syntax.specs.Tree.{Int, Name, Not, Binary, Apply, IsDefined, ListOf, no_trees, tree_and}
use Rattle.pb_expr_syntax.specs.Depth.{depth}
use Rattle.pb_expr_syntax.specs.Tokens.{tokens_of}

abbrev sign : Kind → ℕ → Token
sign k at = record { kind = k; at = at; text = []; number = pos 0 }

abbrev name : ℕ → List ℕ → Token
name at text = record { kind = kind.Name; at = at; text = text; number = pos 0 }

abbrev digits : ℕ → ℤ → Token
digits at number = record { kind = kind.Digits; at = at; text = []; number = number }

sum : tokens_of (codes "a1 + 10") ≡ Ok (name 0 (codes "a1") ∷ sign kind.Plus 3 ∷ digits 5 (pos 10) ∷ [])
sum = refl

longest_sign : tokens_of (codes "1<=2") ≡ Ok (digits 0 (pos 1) ∷ sign kind.AtMost 1 ∷ digits 3 (pos 2) ∷ [])
longest_sign = refl

-- a backslash and n in a text are a line feed
escape : tokens_of (39 ∷ 92 ∷ 110 ∷ 39 ∷ []) ≡ Ok (record { kind = kind.Text; at = 0; text = 10 ∷ []; number = pos 0 } ∷ [])
escape = refl

-- another escape is a fault of the text that it stands in
bad_escape : tokens_of (32 ∷ 39 ∷ 92 ∷ 113 ∷ 39 ∷ []) ≡ Err (Unexpected 1)
bad_escape = refl

unclosed : tokens_of (39 ∷ 97 ∷ []) ≡ Err End
unclosed = refl

bad_byte : tokens_of (codes "a ?") ≡ Err (Unexpected 2)
bad_byte = refl

largest : tokens_of (codes "9223372036854775807") ≡ Ok (digits 0 (pos 9223372036854775807) ∷ [])
largest = refl

too_large : tokens_of (codes "9223372036854775808") ≡ Err NumberTooLarge
too_large = refl

depth_of_empty_list : depth (ListOf no_trees) ≡ 1
depth_of_empty_list = refl

depth_of_not_in : depth (Not (Binary op.NotIn (Name (codes "a")) (ListOf no_trees))) ≡ 3
depth_of_not_in = refl

-- the tree that is computed for a text; a comparison isn't chained
sum_of_text : tree_of (codes "a + 10") ≡ Some (Binary op.Plus (Name (codes "a")) (Int (pos 10)))
unfolding tree_of tree_of_tokens
sum_of_text = refl

chained : tree_of (codes "1 < 2 < 3") ≡ None
unfolding tree_of tree_of_tokens
chained = refl

-- `or` binds weaker than `and`, and `not` stronger than both
either : tree_of (codes "a or b and not c") ≡ Some (Binary op.Or (Name (codes "a")) (Binary op.And (Name (codes "b")) (Not (Name (codes "c")))))
unfolding tree_of tree_of_tokens
either = refl

not_of_comparison : tree_of (codes "not a == 1") ≡ Some (Not (Binary op.Equal (Name (codes "a")) (Int (pos 1))))
unfolding tree_of tree_of_tokens
not_of_comparison = refl

missing : tree_of (codes "a is not defined") ≡ Some (IsDefined (Name (codes "a")) false)
unfolding tree_of tree_of_tokens
missing = refl

not_in : tree_of (codes "a not in []") ≡ Some (Binary op.NotIn (Name (codes "a")) (ListOf no_trees))
unfolding tree_of tree_of_tokens
not_in = refl

two_arguments : tree_of (codes "a | default(d, f)") ≡ Some (Apply filter.Default (Name (codes "a")) (tree_and (Name (codes "d")) (tree_and (Name (codes "f")) no_trees)))
unfolding tree_of tree_of_tokens
two_arguments = refl

grouped_left : tree_of (codes "3 - 2 - 1") ≡ Some (Binary op.Minus (Binary op.Minus (Int (pos 3)) (Int (pos 2))) (Int (pos 1)))
unfolding tree_of tree_of_tokens
grouped_left = refl

-- the first fault that is computed for a text: at the second comparison; at the end of an unclosed text
chained_at : first_fault_of (codes "1 < 2 < 3") ≡ Some (Unexpected 6)
unfolding first_fault_of fault_of_tokens
chained_at = refl

unclosed_text : first_fault_of (codes "'a") ≡ Some End
unfolding first_fault_of
unclosed_text = refl

stops_short : first_fault_of (codes "x |") ≡ Some End
unfolding first_fault_of fault_of_tokens
stops_short = refl

-- a wrong number of arguments is reported at the filter's name once its call is complete, before what stands behind it
wrong_call_first : first_fault_of (codes "x | length(1) +") ≡ Some (Unexpected 4)
unfolding first_fault_of fault_of_tokens
wrong_call_first = refl

wrong_call_before_token : first_fault_of (codes "x | default 5") ≡ Some (Unexpected 4)
unfolding first_fault_of fault_of_tokens
wrong_call_before_token = refl

-- and after a fault within its arguments
open_call : first_fault_of (codes "x | length(1 ]") ≡ Some (Unexpected 13)
unfolding first_fault_of fault_of_tokens
open_call = refl

unknown_filter : first_fault_of (codes "x | upper") ≡ Some (Unexpected 4)
unfolding first_fault_of fault_of_tokens
unknown_filter = refl

no_fault : first_fault_of (codes "a") ≡ None
unfolding first_fault_of fault_of_tokens tree_of_tokens
no_fault = refl
