-- The values of expressions and templates in a scope.
use Rattle.std.specs.Prelude.{ℕ, zero, suc, List, Option, Some, None, Ok, Err, if◌then◌else◌}
use Rattle.pb_value.specs.Datum.{Datum}
use Rattle.pb_value.specs.Reading.{and_then}
use Rattle.pb_expr_syntax.specs.Tree.{Tree}
use Rattle.pb_layers.specs.Scope.{Map, found, has_templates}
use Rattle.pb_template.specs.declared.template.Part.{Part}
use Rattle.pb_operators.specs.declared.fault.EvalFault.TheVariants.{Undefined, TooLarge}
use Rattle.pb_operators.specs.Values.{Value, finished}
use Rattle.pb_expr_eval.specs.Value.{Names}
use Rattle.pb_expr_eval.specs.Rendering.{measured, render, rendered}

-- a stored value as it is read: rendered, where the texts of its layer are templates
abbrev pub read_as : (Datum → Value) → List ℕ → Option (ℕ × Datum) → Value
read_as render name None = Err (Undefined name)
read_as render name (Some f) = if has_templates f.0 then render f.1 else Ok f.1

-- What names stand for in a scope, with that many look-ups inside one another: where none is left, a name is TooLarge before
-- it is looked for. So is a name that leads to itself.
abbrev pub names_in : List Map → ℕ → Names
names_in scope zero name = Err TooLarge
names_in scope (suc levels) name = read_as (rendered (names_in scope levels)) name (found name scope)

-- how many look-ups there may be inside one another
abbrev pub max_look_ups : ℕ
max_look_ups = 16

-- the value of an expression, and what a template gives, both measured
unfoldable pub eval_of : List Map → Tree → Value
eval_of scope t = measured (names_in scope max_look_ups) t

unfoldable pub render_of : List Map → List Part → Value
render_of scope parts = render (names_in scope max_look_ups) parts

-- a value with its texts rendered, in lists and dicts too
unfoldable pub rendered_of : List Map → Datum → Value
rendered_of scope v = and_then (rendered (names_in scope max_look_ups) v) finished
