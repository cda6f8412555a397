-- The value of an expression, where it is known what names stand for. Operands are read from left to right, and the first fault
-- is the answer; an operand that isn't needed isn't asked.
use Rattle.std.specs.Prelude.{ℕ, Bool, false, not, ◌&&◌, List, [], ◌∷◌, Result, Ok, Err, if◌then◌else◌}
use Rattle.pb_value.specs.Datum.{Datum, null, boolean, int, text, list, items_of}
use Rattle.pb_value.specs.Reading.{and_then, map_ok}
use Rattle.pb_value.specs.Truth.{truthy}
use Rattle.pb_expr_syntax.specs.Tree as tree
use Rattle.pb_expr_syntax.specs.Tree.{Tree, Trees, no_trees, tree_and}
use Rattle.pb_expr_syntax.specs.declared.tree.Filter.{Filter}
use Rattle.pb_expr_syntax.specs.declared.tree.Filter.TheVariants as filter
use Rattle.pb_expr_syntax.specs.declared.tree.Op.{Op}
use Rattle.pb_expr_syntax.specs.declared.tree.Op.TheVariants as op
use Rattle.pb_operators.specs.declared.fault.EvalFault.{EvalFault}
use Rattle.pb_operators.specs.declared.fault.EvalFault.TheVariants.{Undefined, WrongKind}
use Rattle.pb_operators.specs.Operators.{negated, binary, member_of, index_of, length_of, bool_of, int_of, join_of}
use Rattle.pb_operators.specs.Values.{Value}

-- what each name stands for, or the fault of reading it
abbrev pub Names : Type 0
Names = List ℕ → Value

-- whether the first operand alone is the value: `and` at a false one, `or` at a true one
abbrev pub short_circuits : Op → Datum → Bool
short_circuits op.And a = not (truthy a)
short_circuits op.Or a = truthy a
short_circuits _ a = false

-- what a filter but `default` gives for a value and its arguments
abbrev pub apply : Filter → Datum → List Datum → Value
apply filter.Length a [] = length_of a
apply filter.Bool a [] = Ok (boolean (bool_of a))
apply filter.Int a [] = Ok (int (int_of a))
apply filter.Join a [] = join_of a (text [])
apply filter.Join a (between ∷ []) = join_of a between
apply _ a _ = Err WrongKind

-- `default(d)`: d where the operand is undefined
abbrev pub or_default : Value → Value → Value
or_default (Err (Undefined name)) d = d
or_default r d = r

-- `default(d, f)`: d also where the operand isn't true, if f is
abbrev pub default_if : Value → Value → Value → Value
default_if (Err (Undefined name)) d f = d
default_if (Err e) d f = Err e
default_if (Ok a) d f = and_then f (λ b. if truthy b && not (truthy a) then d else Ok a)

-- `default` of an operand, with its arguments; they have to be one or two
abbrev pub defaulted : Value → List Value → Value
defaulted r (d ∷ []) = or_default r d
defaulted r (d ∷ f ∷ []) = default_if r d f
defaulted r _ = Err WrongKind

-- `is defined`, or `is not defined` where present is false
abbrev pub is_defined : Value → Bool → Value
is_defined (Ok a) present = Ok (boolean present)
is_defined (Err (Undefined name)) present = Ok (boolean (not present))
is_defined (Err e) present = Err e

-- the value of an expression, or its first fault
abbrev mutual
  pub value : Names → Tree → Value
  value names (tree.Int z) = Ok (int z)
  value names (tree.Text s) = Ok (text s)
  value names (tree.Name s) = names s
  value names (tree.Truth b) = Ok (boolean b)
  value names tree.Null = Ok null
  value names (tree.ListOf ts) = map_ok (λ ds. list (items_of ds)) (values names ts)
  value names (tree.Member x s) = and_then (value names x) (λ a. member_of a s)
  value names (tree.Index x y) = and_then (value names x) (λ a. and_then (value names y) (λ b. index_of a b))
  value names (tree.Not x) = map_ok (λ a. boolean (not (truthy a))) (value names x)
  value names (tree.Negate x) = and_then (value names x) negated
  value names (tree.Binary o x y) = and_then (value names x) (λ a. if short_circuits o a then Ok a else and_then (value names y) (λ b. binary o a b))
  value names (tree.Apply filter.Default x ts) = defaulted (value names x) (each names ts)
  value names (tree.Apply f x ts) = and_then (value names x) (λ a. and_then (values names ts) (λ bs. apply f a bs))
  value names (tree.IsDefined x present) = is_defined (value names x) present

  -- the values of all, or the first fault
  pub values : Names → Trees → Result (List Datum) EvalFault
  values names no_trees = Ok []
  values names (tree_and t ts) = and_then (value names t) (λ d. map_ok (λ ds. d ∷ ds) (values names ts))

  -- the value of each, or its fault
  pub each : Names → Trees → List Value
  each names no_trees = []
  each names (tree_and t ts) = value names t ∷ each names ts
