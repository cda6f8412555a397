-- The tree that one level of an `Expr` stands for.
use Rattle.pb_expr_syntax.specs.Tree as tree
use Rattle.pb_expr_syntax.specs.Tree.{Tree, trees_of}
use Rattle.pb_expr_syntax.specs.declared.tree.Form.{Form}
use Rattle.pb_expr_syntax.specs.declared.tree.Form.TheVariants.{Int, Text, Name, Truth, Null, List, Member, Index, Not, Negate, Binary, Apply, IsDefined}

abbrev pub view : Form → Tree
view (Int z) = tree.Int z
view (Text s) = tree.Text s
view (Name s) = tree.Name s
view (Truth b) = tree.Truth b
view Null = tree.Null
view (List ts) = tree.ListOf (trees_of ts)
view (Member x s) = tree.Member x.value s
view (Index x y) = tree.Index x.value y.value
view (Not x) = tree.Not x.value
view (Negate x) = tree.Negate x.value
view (Binary op x y) = tree.Binary op x.value y.value
view (Apply f x ts) = tree.Apply f x.value (trees_of ts)
view (IsDefined x b) = tree.IsDefined x.value b
