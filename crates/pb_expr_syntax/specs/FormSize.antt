-- An `Expr` is larger than each tree within it.
use Rattle.std.specs.Prelude.{◌≤◌}
use Rattle.std.proofs.Common.{arith}
use Rattle.pb_expr_syntax.specs.Tree.{nodes}
use Rattle.pb_expr_syntax.specs.View.{view}
use Rattle.pb_expr_syntax.specs.declared.tree.Expr.TheDeep.{deep-Form}
use Rattle.pb_expr_syntax.specs.declared.tree.Form.{Form}
use Rattle.pb_expr_syntax.specs.declared.tree.Form.TheVariants.{Int, Text, Name, Truth, Null, List, Member, Index, Not, Negate, Binary, Apply, IsDefined}

pub form_falls : (f : Form) → deep-Form f ≤ nodes (view f)
form_falls (Int z) = omega arith
form_falls (Text s) = omega arith
form_falls (Name s) = omega arith
form_falls (Truth b) = omega arith
form_falls Null = omega arith
form_falls (List ts) = omega arith
form_falls (Member x s) = omega arith
form_falls (Index x y) = omega arith
form_falls (Not x) = omega arith
form_falls (Negate x) = omega arith
form_falls (Binary op x y) = omega arith
form_falls (Apply f x ts) = omega arith
form_falls (IsDefined x b) = omega arith
