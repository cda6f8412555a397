-- Worked examples: each is proved by computing both sides.
use Rattle.std.specs.Prelude.{◌≡◌, ℕ, zero, suc, pos, Float, true, false, [], ◌∷◌, Ok, Err, Some, None, codes, refl}
use Rattle.serde_json.specs.Data as json
use Rattle.pb_value.specs.Datum.{Datum, null, boolean, int, text, list, no_items, item}
use Rattle.pb_value.specs.Depth.{depth}
use Rattle.pb_value.specs.FromJson.{value_of}
use Rattle.pb_value.specs.Names.{kept, spot, names_of}
use Rattle.pb_value.specs.Reading.{below}
use Rattle.pb_value.specs.ToJson.{text_of}
use Rattle.pb_value.specs.Truth.{truthy}
use Rattle.pb_value.specs.Words.{is_name, switch_of}
use Rattle.pb_value.specs.declared.fault.ValFault.TheVariants.{NotWhole, OutOfRange, TooDeep}

zero_is_false : truthy (int (pos 0)) ≡ false
zero_is_false = refl

text_zero_is_true : truthy (text (codes "0")) ≡ true
text_zero_is_true = refl

list_of_null_is_true : truthy (list (item null no_items)) ≡ true
list_of_null_is_true = refl

text_of_true : text_of (boolean true) ≡ codes "True"
text_of_true = refl

text_of_null : text_of null ≡ []
text_of_null = refl

depth_of_empty_list : depth (list no_items) ≡ 1
depth_of_empty_list = refl

path_of_task : below (below (codes "0") (codes "tasks")) (codes "1") ≡ codes "0/tasks/1"
path_of_task = refl

path_of_first : below [] (codes "all") ≡ codes "all"
path_of_first = refl

name_with_digit : is_name (codes "_x1") ≡ true
name_with_digit = refl

digit_first : is_name (codes "1x") ≡ false
digit_first = refl

no_text_is_no_name : is_name [] ≡ false
no_text_is_no_name = refl

switch_yes : switch_of (json.string (codes "YES")) ≡ Some true
switch_yes = refl

switch_off : switch_of (json.string (codes "Off")) ≡ Some false
switch_off = refl

switch_one : switch_of (json.number (json.unsigned 1)) ≡ None
switch_one = refl

whole_number : value_of (json.number (json.unsigned 9223372036854775807)) ≡ Ok (int (pos 9223372036854775807))
unfolding value_of
whole_number = refl

number_above : value_of (json.number (json.unsigned 18446744073709551615)) ≡ Err OutOfRange
unfolding value_of
number_above = refl

-- names that are kept once: a bit that is set says that its name has no value
all_have_one : kept {K = ℕ} {X = ℕ} 0 (1 ∷ 2 ∷ []) (7 ∷ 8 ∷ []) ≡ (1, 7) ∷ (2, 8) ∷ []
all_have_one = refl

first_has_none : kept {K = ℕ} {X = ℕ} 1 (1 ∷ 2 ∷ []) (8 ∷ []) ≡ (2, 8) ∷ []
first_has_none = refl

behind_none : spot 1 1 ≡ Some 0
behind_none = refl

names_of_one : names_of ((codes "rc", null) ∷ []) ≡ Some (codes "rc" ∷ [])
names_of_one = refl

-- a number with a fraction or an exponent is no whole number, whatever it is worth; so is -0
no_float : (f : Float) → value_of (json.number (json.float f)) ≡ Err NotWhole
unfolding value_of
no_float f = refl

-- so many lists in one another
abbrev nested : ℕ → json.Data
nested zero = json.null
nested (suc n) = json.array (json.item (nested n) json.no_items)

abbrev lists : ℕ → Datum
lists zero = null
lists (suc n) = list (item (lists n) no_items)

deepest : value_of (nested 64) ≡ Ok (lists 64)
unfolding value_of
deepest = refl

one_too_deep : value_of (nested 65) ≡ Err TooDeep
unfolding value_of
one_too_deep = refl
