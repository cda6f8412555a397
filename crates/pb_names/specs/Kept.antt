-- Names by their numbers and numbers by their names, as the code keeps both.
use Rattle.std.specs.Prelude.{◌≡◌, ℕ, List, map, Option, position}
use Rattle.std.specs.declared.alloc.Global.{Global}
use Rattle.std.specs.declared.rc.RcStr.{RcStr}
use Rattle.std.specs.BTreeMap.{BTreeMap, get_by}
use Rattle.std.specs.Cmp.Lexicographic.{slice_cmp}
use Rattle.std.specs.Ordering.{nat_cmp}
use Rattle.std.specs.Rc.{rc_str_bytes}
use Rattle.std.specs.Str.{bytes_eq}

abbrev pub texts : List (RcStr Global) → List (List ℕ)
texts names = map rc_str_bytes names

-- the number under a name
abbrev pub number_under : List ℕ → BTreeMap (RcStr Global) ℕ → Option ℕ
number_under name numbers = get_by (λ k. slice_cmp nat_cmp name (rc_str_bytes k)) numbers

-- under each name stands the number that it has in the list
abbrev pub FindsEach : List (RcStr Global) → BTreeMap (RcStr Global) ℕ → Type 0
FindsEach names numbers = (name : List ℕ) → number_under name numbers ≡ position (bytes_eq name) (texts names)
