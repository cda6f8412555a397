-- Values as operators make them, within their limits, and the tests of two values.
use Rattle.std.specs.Prelude.{ℕ, ℤ, pos, negsuc, ◌^◌, Bool, true, false, ◌&&◌, ◌||◌, List, [], ◌∷◌, ◌++◌, Option, Some, None, Result, Ok, Err, length, nat_lt, nat_le, if◌then◌else◌}
use Rattle.std.specs.declared.cmp.Ordering.{Ordering}
use Rattle.std.specs.Ordering.{int_cmp, int_eq, nat_cmp}
use Rattle.std.specs.Cmp.Lexicographic.{slice_cmp}
use Rattle.std.specs.Str.{bytes_eq}
use Rattle.pb_value.specs.Datum.{Datum, null, boolean, int, text, list, dict, items_of, Items, no_items, item, Members, no_members, member}
use Rattle.pb_value.specs.Depth.{depth}
use Rattle.pb_value.specs.Limits.{max_text, max_depth}
use Rattle.pb_operators.specs.declared.fault.EvalFault.{EvalFault}
use Rattle.pb_operators.specs.declared.fault.EvalFault.TheVariants.{WrongKind, Overflow, TooLarge}

-- a value, or one fault
abbrev pub Value : Type 0
Value = Result Datum EvalFault

-- whether a number is within 64 signed bits
abbrev pub fits : ℤ → Bool
fits (pos n) = nat_lt n (2 ^ 63)
fits (negsuc n) = nat_lt n (2 ^ 63)

-- a number that is made, or the fault that it is out of range
abbrev pub int_within : ℤ → Value
int_within z = if fits z then Ok (int z) else Err Overflow

-- a text that is made has at most 1 MiB
abbrev pub text_within : List ℕ → Value
text_within s = if nat_le (length s) max_text then Ok (text s) else Err TooLarge

-- a list that is made of two has at most 1,048,576 members
abbrev pub max_members : ℕ
max_members = 1048576

-- such a list, or the fault that it has more
abbrev pub list_within : List Datum → Value
list_within ds = if nat_le (length ds) max_members then Ok (list (items_of ds)) else Err TooLarge

-- a final value nests at most 64 levels, and a final text has at most 1 MiB
abbrev pub is_final : Datum → Bool
is_final (text s) = nat_le (length s) max_text
is_final d = nat_le (depth d) max_depth

-- a value that may be final, or the fault that it is too large
abbrev pub finished : Datum → Value
finished d = if is_final d then Ok d else Err TooLarge

-- one kind and equal content
abbrev mutual
  pub same : Datum → Datum → Bool
  same null null = true
  same (boolean true) (boolean true) = true
  same (boolean false) (boolean false) = true
  same (int a) (int b) = int_eq a b
  same (text s) (text t) = bytes_eq s t
  same (list ds) (list es) = same_items ds es
  same (dict ms) (dict ns) = same_members ms ns
  same _ _ = false

  pub same_items : Items → Items → Bool
  same_items no_items no_items = true
  same_items (item d ds) (item e es) = same d e && same_items ds es
  same_items _ _ = false

  pub same_members : Members → Members → Bool
  same_members no_members no_members = true
  same_members (member k d ms) (member l e ns) = bytes_eq k l && (same d e && same_members ms ns)
  same_members _ _ = false

-- whether a row has the same value
abbrev pub is_among : Datum → List Datum → Bool
is_among d [] = false
is_among d (e ∷ es) = same d e || is_among d es

-- how two numbers, or two texts by their bytes, stand to one another
abbrev pub order_of : Datum → Datum → Option Ordering
order_of (int a) (int b) = Some (int_cmp a b)
order_of (text s) (text t) = Some (slice_cmp nat_cmp s t)
order_of _ _ = None
