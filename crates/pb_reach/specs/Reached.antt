-- Which variables an expression reaches: what other variables say matters to it alone where one of its own names stands, in a layer whose texts are
-- templates, for a value that has an expression in a text.
use Rattle.std.specs.Prelude.{ℕ, ◌+◌, Bool, false, not, ◌&&◌, ◌||◌, nat_eq, List, [], ◌∷◌, codes, length}
use Rattle.std.specs.Option.{option_map_or}
use Rattle.pb_value.specs.Datum.{value_at}
use Rattle.pb_expr_syntax.specs.Tree.{Tree, Int, Text, Name, Truth, Null, ListOf, Member, Index, Not, Negate, Binary, Apply, IsDefined, Trees, no_trees, tree_and}
use Rattle.pb_layers.specs.Scope.{Map, has_templates}
use Rattle.pb_mentions.specs.Mentions.{mentions}

-- one of its names passes a test
abbrev mutual
  pub some_name : (List ℕ → Bool) → Tree → Bool
  some_name test (Int z) = false
  some_name test (Text s) = false
  some_name test (Name s) = test s
  some_name test (Truth b) = false
  some_name test Null = false
  some_name test (ListOf ts) = some_name_in test ts
  some_name test (Member x s) = some_name test x
  some_name test (Index x y) = some_name test x || some_name test y
  some_name test (Not x) = some_name test x
  some_name test (Negate x) = some_name test x
  some_name test (Binary op x y) = some_name test x || some_name test y
  some_name test (Apply f x ts) = some_name test x || some_name_in test ts
  some_name test (IsDefined x b) = some_name test x

  pub some_name_in : (List ℕ → Bool) → Trees → Bool
  some_name_in test no_trees = false
  some_name_in test (tree_and t ts) = some_name test t || some_name_in test ts

-- A name stands in a map for a value in whose texts an expression begins. One without that is the same whatever names stand for.
abbrev pub leads_on : List ℕ → Map → Bool
leads_on name m = option_map_or (mentions (codes "{{")) (value_at name m) false

-- it does in a map whose texts are templates
abbrev pub maps_lead : List Map → List ℕ → Bool
maps_lead [] name = false
maps_lead (m ∷ below) name = (has_templates (length below + 1) && leads_on name m) || maps_lead below name

-- of the eleven layers of a task
abbrev pub layers_lead : List Map → List ℕ → Bool
layers_lead layers name = not (nat_eq (length layers) 11) || maps_lead layers name

-- in one of some maps
abbrev pub each_leads : List Map → List ℕ → Bool
each_leads [] name = false
each_leads (m ∷ ms) name = leads_on name m || each_leads ms name
