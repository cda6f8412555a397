-- Worked examples: each is proved by computing both sides.
use Rattle.std.specs.Prelude.{◌≡◌, ℤ, pos, negsuc, true, false, [], ◌∷◌, Ok, Err, codes, refl}
use Rattle.std.specs.Fmt.{digits}
use Rattle.pb_value.specs.Datum.{Datum, null, boolean, int, text, list, items_of}
use Rattle.pb_expr_syntax.specs.declared.tree.Op.TheVariants as op
use Rattle.pb_operators.specs.declared.fault.EvalFault.TheVariants.{Undefined, WrongKind, Overflow}
use Rattle.pb_operators.specs.Values.{same}
use Rattle.pb_operators.specs.Operators.{plus, minus, negated, tilde, binary, index_of, length_of, bool_of, int_of, join_of}

sum_too_large : plus (int (pos 9223372036854775807)) (int (pos 1)) ≡ Err Overflow
sum_too_large = refl

number_and_text : plus (int (pos 3)) (text (codes "3")) ≡ Err WrongKind
number_and_text = refl

texts_of_both : tilde (boolean true) (int (negsuc 0)) ≡ Ok (text (codes "True-1"))
unfolding digits
texts_of_both = refl

least_has_no_opposite : negated (int (negsuc 9223372036854775807)) ≡ Err Overflow
least_has_no_opposite = refl

true_is_not_one : same (boolean true) (int (pos 1)) ≡ false
true_is_not_one = refl

text_before_text : binary op.Less (text (codes "10")) (text (codes "9")) ≡ Ok (boolean true)
text_before_text = refl

text_within_text : binary op.In (text (codes "ab")) (text (codes "cabd")) ≡ Ok (boolean true)
text_within_text = refl

one_in_list : binary op.NotIn (int (pos 1)) (list (items_of (boolean true ∷ []))) ≡ Ok (boolean true)
one_in_list = refl

last_of_list : index_of (list (items_of (null ∷ int (pos 7) ∷ []))) (int (negsuc 0)) ≡ Ok (int (pos 7))
last_of_list = refl

past_the_end : index_of (list (items_of (null ∷ []))) (int (negsuc 1)) ≡ Err (Undefined (codes "-2"))
unfolding digits
past_the_end = refl

word_of_any_case : bool_of (text (codes "YES")) ≡ true
word_of_any_case = refl

two_is_not_true : bool_of (int (pos 2)) ≡ false
two_is_not_true = refl

number_in_text : int_of (text (codes " -7 ")) ≡ negsuc 6
number_in_text = refl

number_out_of_range : int_of (text (codes "9223372036854775808")) ≡ pos 0
number_out_of_range = refl

plus_sign : int_of (text (codes "+9223372036854775807")) ≡ pos 9223372036854775807
plus_sign = refl

minus_alone : int_of (text (codes "-")) ≡ pos 0
minus_alone = refl

joined_by_minus : join_of (list (items_of (int (pos 1) ∷ text (codes "a") ∷ []))) (text (codes "-")) ≡ Ok (text (codes "1-a"))
unfolding digits
joined_by_minus = refl

-- two bytes make one character
umlaut : length_of (text (195 ∷ 164 ∷ 97 ∷ [])) ≡ Ok (int (pos 2))
umlaut = refl
