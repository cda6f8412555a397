-- How many levels a tree has.
use Rattle.std.specs.Prelude.{ℕ, ◌+◌, max}
use Rattle.pb_expr_syntax.specs.Tree.{Tree, Int, Text, Name, Truth, Null, ListOf, Member, Index, Not, Negate, Binary, Apply, IsDefined, Trees, no_trees, tree_and}

-- an atom has one level, any other form one more than its deepest part
abbrev mutual
  pub depth : Tree → ℕ
  depth (Int z) = 1
  depth (Text s) = 1
  depth (Name s) = 1
  depth (Truth b) = 1
  depth Null = 1
  depth (ListOf ts) = trees_depth ts + 1
  depth (Member x s) = depth x + 1
  depth (Index x y) = max (depth x) (depth y) + 1
  depth (Not x) = depth x + 1
  depth (Negate x) = depth x + 1
  depth (Binary op x y) = max (depth x) (depth y) + 1
  depth (Apply f x ts) = max (depth x) (trees_depth ts) + 1
  depth (IsDefined x b) = depth x + 1

  pub trees_depth : Trees → ℕ
  trees_depth no_trees = 0
  trees_depth (tree_and t ts) = max (depth t) (trees_depth ts)
