-- Which expressions name a variable: whose value may depend on what stands under that name.
use Rattle.std.specs.Prelude.{ℕ, Bool, false, ◌||◌, List}
use Rattle.std.specs.List.{list_any}
use Rattle.std.specs.Option.{option_map_or}
use Rattle.std.specs.Str.{bytes_eq}
use Rattle.pb_value.specs.Datum.{Datum, null, boolean, int, text, list, dict, Items, no_items, item, Members, no_members, member}
use Rattle.pb_expr_syntax.specs.Tree.{Tree, Int, Text, Name, Truth, Null, ListOf, Member, Index, Not, Negate, Binary, Apply, IsDefined, Trees, no_trees, tree_and}
use Rattle.pb_template.specs.Computed.{template_of}
use Rattle.pb_template.specs.declared.template.Part.{Part}
use Rattle.pb_template.specs.declared.template.Part.TheVariants.{Plain, Code}

-- a key behind a dot is no name, nor is a text
abbrev mutual
  pub in_tree : List ℕ → Tree → Bool
  in_tree word (Int z) = false
  in_tree word (Text s) = false
  in_tree word (Name s) = bytes_eq s word
  in_tree word (Truth b) = false
  in_tree word Null = false
  in_tree word (ListOf ts) = in_trees word ts
  in_tree word (Member x s) = in_tree word x
  in_tree word (Index x y) = in_tree word x || in_tree word y
  in_tree word (Not x) = in_tree word x
  in_tree word (Negate x) = in_tree word x
  in_tree word (Binary op x y) = in_tree word x || in_tree word y
  in_tree word (Apply f x ts) = in_tree word x || in_trees word ts
  in_tree word (IsDefined x b) = in_tree word x

  pub in_trees : List ℕ → Trees → Bool
  in_trees word no_trees = false
  in_trees word (tree_and t ts) = in_tree word t || in_trees word ts

-- whether a template does, or one within a value; the names of a dict are no templates
abbrev pub in_part : List ℕ → Part → Bool
in_part word (Plain s) = false
in_part word (Code t) = in_tree word t

-- a text that is no template names nothing
abbrev pub in_text : List ℕ → List ℕ → Bool
in_text word s = option_map_or (list_any (in_part word)) (template_of s) false

abbrev mutual
  pub in_value : List ℕ → Datum → Bool
  in_value word (text s) = in_text word s
  in_value word (list ds) = in_items word ds
  in_value word (dict ms) = in_members word ms
  in_value word null = false
  in_value word (boolean b) = false
  in_value word (int z) = false

  pub in_items : List ℕ → Items → Bool
  in_items word no_items = false
  in_items word (item d ds) = in_value word d || in_items word ds

  pub in_members : List ℕ → Members → Bool
  in_members word no_members = false
  in_members word (member k d ms) = in_value word d || in_members word ms
