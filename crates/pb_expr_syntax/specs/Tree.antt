-- What an expression is: the tree that contracts see in place of an `Expr`.
use Rattle.std.specs.Prelude.{ℕ, ◌+◌, ℤ, Bool, List, [], ◌∷◌}
use Rattle.pb_expr_syntax.specs.declared.tree.Filter.{Filter}
use Rattle.pb_expr_syntax.specs.declared.tree.Op.{Op}

mutual
  pub data Tree : Type 0 where
    Int : ℤ → Tree
    Text : List ℕ → Tree
    Name : List ℕ → Tree
    Truth : Bool → Tree
    Null : Tree
    ListOf : Trees → Tree
    Member : Tree → List ℕ → Tree
    Index : Tree → Tree → Tree
    Not : Tree → Tree
    Negate : Tree → Tree
    Binary : Op → Tree → Tree → Tree
    Apply : Filter → Tree → Trees → Tree
    IsDefined : Tree → Bool → Tree

  pub data Trees : Type 0 where
    no_trees : Trees
    tree_and : Tree → Trees → Trees

-- a plain list as a row of trees, and back
abbrev pub trees_of : List Tree → Trees
trees_of [] = no_trees
trees_of (t ∷ ts) = tree_and t (trees_of ts)

abbrev pub list_of : Trees → List Tree
list_of no_trees = []
list_of (tree_and t ts) = t ∷ list_of ts

-- how many trees stand in a tree, itself included
abbrev mutual
  pub nodes : Tree → ℕ
  nodes (Int z) = 1
  nodes (Text s) = 1
  nodes (Name s) = 1
  nodes (Truth b) = 1
  nodes Null = 1
  nodes (ListOf ts) = 2 + trees_nodes ts
  nodes (Member x s) = 1 + nodes x
  nodes (Index x y) = 1 + nodes x + nodes y
  nodes (Not x) = 1 + nodes x
  nodes (Negate x) = 1 + nodes x
  nodes (Binary op x y) = 1 + nodes x + nodes y
  nodes (Apply f x ts) = 2 + nodes x + trees_nodes ts
  nodes (IsDefined x b) = 1 + nodes x

  pub trees_nodes : Trees → ℕ
  trees_nodes no_trees = 0
  trees_nodes (tree_and t ts) = nodes t + trees_nodes ts
