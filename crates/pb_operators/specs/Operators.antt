-- What each operator and filter gives. They are Jinja's ("Template Designer Documentation", sections "Math", "Comparisons",
-- "Logic", "Other Operators" and "List of Builtin Filters") and Ansible's ("Using filters to manipulate data"), on the kinds of
-- values that there are here. Kinds are never converted into one another by an operator but `~`.
use Rattle.std.specs.Prelude.{ℕ, ◌+◌, ◌-◌, ℤ, pos, negsuc, ◌+ℤ◌, ◌-ℤ◌, neg_ℤ, Bool, true, false, not, ◌==◌, ◌&&◌, ◌||◌, List, [], ◌∷◌, ◌++◌, Option, Some, None, Result, Ok, Err, length, nat_lt, codes, drop, take, slice_get, if◌then◌else◌}
use Rattle.std.specs.Char.{is_ascii_whitespace}
use Rattle.std.specs.Fmt.{signed_decimal, is_char_start}
use Rattle.std.specs.List.{prefix_len, suffix_len}
use Rattle.std.specs.Option.{option_map}
use Rattle.std.specs.Ordering.{is_lt, is_le, is_gt, is_ge, int_eq}
use Rattle.std.specs.Str.{all_ascii_digits, str_eq_ignore_ascii_case}
use Rattle.pb_value.specs.Datum.{Datum, boolean, int, text, list, dict, list_of, entries_of, value_at}
use Rattle.pb_value.specs.Reading.{map_ok}
use Rattle.pb_value.specs.ToJson.{text_of}
use Rattle.pb_value.specs.Truth.{truthy}
use Rattle.pb_expr_syntax.specs.Tokens.{number_after}
use Rattle.pb_expr_syntax.specs.declared.tree.Op.{Op}
use Rattle.pb_expr_syntax.specs.declared.tree.Op.TheVariants as op
use Rattle.pb_operators.specs.declared.fault.EvalFault.{EvalFault}
use Rattle.pb_operators.specs.declared.fault.EvalFault.TheVariants.{Undefined, WrongKind}
use Rattle.pb_operators.specs.Values.{Value, fits, int_within, text_within, list_within, same, is_among, order_of}

-- `+`: the sum of two numbers; two texts or two lists one behind the other
abbrev pub plus : Datum → Datum → Value
plus (int a) (int b) = int_within (a +ℤ b)
plus (text s) (text t) = text_within (s ++ t)
plus (list ds) (list es) = list_within (list_of ds ++ list_of es)
plus _ _ = Err WrongKind

-- `-` of two numbers, and of one
abbrev pub minus : Datum → Datum → Value
minus (int a) (int b) = int_within (a -ℤ b)
minus _ _ = Err WrongKind

abbrev pub negated : Datum → Value
negated (int a) = int_within (neg_ℤ a)
negated _ = Err WrongKind

-- `~`: the texts of both, one behind the other
abbrev pub tilde : Datum → Datum → Value
tilde a b = text_within (text_of a ++ text_of b)

-- what a comparison gives: two values that have no order are of a wrong kind
abbrev pub truth_of : Option Bool → Value
truth_of (Some b) = Ok (boolean b)
truth_of None = Err WrongKind

-- the second text begins with the first, as each does with an empty one
abbrev pub begins_with : List ℕ → List ℕ → Bool
begins_with [] bs = true
begins_with (x ∷ xs) [] = false
begins_with (x ∷ xs) (b ∷ bs) = (x == b) && begins_with xs bs

-- whether a text stands somewhere in another
abbrev pub occurs : List ℕ → List ℕ → Bool
occurs s [] = begins_with s []
occurs s (b ∷ bs) = begins_with s (b ∷ bs) || occurs s bs

abbrev pub is_there : {A : Type 0} → Option A → Bool
is_there None = false
is_there (Some x) = true

-- `in`: a member of a list, a text within a text, a key of a dict
abbrev pub contains : Datum → Datum → Result Bool EvalFault
contains a (list ds) = Ok (is_among a (list_of ds))
contains (text s) (text t) = Ok (occurs s t)
contains (text s) (dict ms) = Ok (is_there (value_at s (entries_of ms)))
contains _ _ = Err WrongKind

-- an operator between two values; of `and` and `or` the first operand where that is the result, else the second
abbrev pub binary : Op → Datum → Datum → Value
binary op.Or a b = Ok (if truthy a then a else b)
binary op.And a b = Ok (if truthy a then b else a)
binary op.Equal a b = Ok (boolean (same a b))
binary op.NotEqual a b = Ok (boolean (not (same a b)))
binary op.Less a b = truth_of (option_map is_lt (order_of a b))
binary op.AtMost a b = truth_of (option_map is_le (order_of a b))
binary op.Greater a b = truth_of (option_map is_gt (order_of a b))
binary op.AtLeast a b = truth_of (option_map is_ge (order_of a b))
binary op.In a b = map_ok (λ there. boolean there) (contains a b)
binary op.NotIn a b = map_ok (λ there. boolean (not there)) (contains a b)
binary op.Plus a b = plus a b
binary op.Minus a b = minus a b
binary op.Tilde a b = tilde a b

-- a part that may be missing, under the name that it is asked by
abbrev pub part_under : List ℕ → Option Datum → Value
part_under name (Some d) = Ok d
part_under name None = Err (Undefined name)

-- `.x` of a dict
abbrev pub member_of : Datum → List ℕ → Value
member_of (dict ms) name = part_under name (value_at name (entries_of ms))
member_of _ name = Err WrongKind

-- the member of that number, from 0 on, or from -1 backwards on
abbrev pub at_number : List Datum → ℤ → Option Datum
at_number ds (pos n) = slice_get ds n
at_number ds (negsuc n) = if nat_lt n (length ds) then slice_get ds (length ds - (n + 1)) else None

-- `[x]` of a dict by a text, of a list by a number
abbrev pub index_of : Datum → Datum → Value
index_of (dict ms) (text name) = part_under name (value_at name (entries_of ms))
index_of (list ds) (int z) = part_under (signed_decimal z) (at_number (list_of ds) z)
index_of _ _ = Err WrongKind

-- the characters of a text, by the bytes that begin one (UTF-8)
abbrev pub characters : List ℕ → ℕ
characters [] = 0
characters (b ∷ bs) = if is_char_start b then characters bs + 1 else characters bs

-- `length`: characters, members or keys
abbrev pub length_of : Datum → Value
length_of (text s) = int_within (pos (characters s))
length_of (list ds) = int_within (pos (length (list_of ds)))
length_of (dict ms) = int_within (pos (length (entries_of ms)))
length_of _ = Err WrongKind

-- the words that `bool` takes for true
abbrev pub is_true_word : List ℕ → Bool
is_true_word s = str_eq_ignore_ascii_case s (codes "yes") || str_eq_ignore_ascii_case s (codes "on") || str_eq_ignore_ascii_case s (codes "1") || str_eq_ignore_ascii_case s (codes "true")

-- `bool`: a Boolean itself, the number 1, and these words in any case of their letters
abbrev pub bool_of : Datum → Bool
bool_of (boolean b) = b
bool_of (int z) = int_eq z (pos 1)
bool_of (text s) = is_true_word s
bool_of _ = false

-- a text without the white space of ASCII at its end, and without that at its front either
abbrev pub trimmed_end : List ℕ → List ℕ
trimmed_end s = take (length s - suffix_len is_ascii_whitespace s) s

abbrev pub trimmed : List ℕ → List ℕ
trimmed s = trimmed_end (drop (prefix_len is_ascii_whitespace s) s)

-- the number that digits write, of which there is at least one
abbrev pub natural : List ℕ → Option ℕ
natural [] = None
natural (d ∷ ds) = if all_ascii_digits (d ∷ ds) then Some (number_after 0 (d ∷ ds)) else None

-- the same behind a sign, which may be missing
abbrev pub signed : List ℕ → Option ℤ
signed [] = None
signed (b ∷ bs) =
    if b == 45 then option_map (λ n. neg_ℤ (pos n)) (natural bs) else
    if b == 43 then option_map (λ n. pos n) (natural bs) else
    option_map (λ n. pos n) (natural (b ∷ bs))

-- 0 in place of what is no number of 64 signed bits
abbrev pub or_zero : Option ℤ → ℤ
or_zero None = pos 0
or_zero (Some z) = if fits z then z else pos 0

-- `int`: a number itself, 1 for true, the number that a text writes, else 0
abbrev pub int_of : Datum → ℤ
int_of (int z) = z
int_of (boolean true) = pos 1
int_of (text s) = or_zero (signed (trimmed s))
int_of _ = pos 0

-- the first text, and behind it the text of each value with the second text in front
abbrev pub behind : List ℕ → List ℕ → List Datum → List ℕ
behind front between [] = front
behind front between (d ∷ ds) = behind (front ++ (between ++ text_of d)) between ds

-- the texts of values, with a text between each and the next
abbrev pub joined : List ℕ → List Datum → List ℕ
joined between [] = []
joined between (d ∷ ds) = behind (text_of d) between ds

-- `join` of a list by a text
abbrev pub join_of : Datum → Datum → Value
join_of (list ds) (text between) = text_within (joined between (list_of ds))
join_of _ _ = Err WrongKind
