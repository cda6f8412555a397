-- How the logic stores a tree: a number for its form, what stands in it besides trees, and its trees.
use Rattle.std.specs.Prelude.{◌≡◌, ℕ, zero, suc, ℤ, pos, negsuc, Bool, true, false, List, [], ◌∷◌, refl}
use Rattle.std.proofs.Common.{ap, sym, ◌∙◌}
use Rattle.std.specs.Coded.{Coded}
use base.Stored.{Gv, gnil, gnum, gcons, num}
use Rattle.pb_expr_syntax.specs.declared.tree.Filter.{Filter}
use Rattle.pb_expr_syntax.specs.declared.tree.Filter.TheVariants as filter
use Rattle.pb_expr_syntax.specs.declared.tree.Op.{Op}
use Rattle.pb_expr_syntax.specs.declared.tree.Op.TheVariants as op
use Rattle.pb_expr_syntax.specs.Tree.{Tree, Int, Text, Name, Truth, Null, ListOf, Member, Index, Not, Negate, Binary, Apply, IsDefined, Trees, no_trees, tree_and}

-- the first half of a stored pair, and its second half; what is no pair has nothing in either
abbrev head : Gv → Gv
head gnil = gnil
head (gnum n) = gnil
head (gcons a b) = a

abbrev tail : Gv → Gv
tail gnil = gnil
tail (gnum n) = gnil
tail (gcons a b) = b

-- the n-th, or the default
abbrev pick : {A : Type 0} → A → List A → ℕ → A
pick d [] n = d
pick d (x ∷ xs) zero = x
pick d (x ∷ xs) (suc n) = pick d xs n

-- what stands in a tree besides trees, as it is stored (`_code`), and back (`_at`): what nothing is stored as is read as something too
abbrev bool_code : Bool → ℕ
bool_code false = 0
bool_code true = 1

abbrev bool_at : ℕ → Bool
bool_at n = pick true (false ∷ []) n

abbrev int_code : ℤ → Gv
int_code (pos n) = gcons (gnum 0) (gnum n)
int_code (negsuc n) = gcons (gnum 1) (gnum n)

abbrev int_at : Gv → ℤ
int_at g = pick (negsuc (num (tail g))) (pos (num (tail g)) ∷ []) (num (head g))

abbrev text_code : List ℕ → Gv
text_code [] = gnil
text_code (b ∷ bs) = gcons (gnum b) (text_code bs)

abbrev text_at : Gv → List ℕ
text_at gnil = []
text_at (gnum n) = []
text_at (gcons a b) = num a ∷ text_at b

abbrev filter_code : Filter → ℕ
filter_code filter.Default = 0
filter_code filter.Length = 1
filter_code filter.Bool = 2
filter_code filter.Int = 3
filter_code filter.Join = 4

abbrev filter_at : ℕ → Filter
filter_at n = pick filter.Default (filter.Default ∷ filter.Length ∷ filter.Bool ∷ filter.Int ∷ filter.Join ∷ []) n

abbrev op_code : Op → ℕ
op_code op.Or = 0
op_code op.And = 1
op_code op.Equal = 2
op_code op.NotEqual = 3
op_code op.Less = 4
op_code op.AtMost = 5
op_code op.Greater = 6
op_code op.AtLeast = 7
op_code op.In = 8
op_code op.NotIn = 9
op_code op.Plus = 10
op_code op.Minus = 11
op_code op.Tilde = 12

abbrev op_at : ℕ → Op
op_at n = pick op.Or (op.Or ∷ op.And ∷ op.Equal ∷ op.NotEqual ∷ op.Less ∷ op.AtMost ∷ op.Greater ∷ op.AtLeast ∷ op.In ∷ op.NotIn ∷ op.Plus ∷ op.Minus ∷ op.Tilde ∷ []) n

abbrev node : ℕ → Gv → Gv → Gv
node tag own trees = gcons (gnum tag) (gcons own trees)

abbrev mutual
  pub code : Tree → Gv
  code (Int z) = node 0 (int_code z) gnil
  code (Text s) = node 1 (text_code s) gnil
  code (Name s) = node 2 (text_code s) gnil
  code (Truth b) = node 3 (gnum (bool_code b)) gnil
  code Null = node 4 gnil gnil
  code (ListOf ts) = node 5 gnil (trees_code ts)
  code (Member x s) = node 6 (text_code s) (gcons (code x) gnil)
  code (Index x y) = node 7 gnil (gcons (code x) (gcons (code y) gnil))
  code (Not x) = node 8 gnil (gcons (code x) gnil)
  code (Negate x) = node 9 gnil (gcons (code x) gnil)
  code (Binary o x y) = node 10 (gnum (op_code o)) (gcons (code x) (gcons (code y) gnil))
  code (Apply f x ts) = node 11 (gnum (filter_code f)) (gcons (code x) (trees_code ts))
  code (IsDefined x b) = node 12 (gnum (bool_code b)) (gcons (code x) gnil)

  pub trees_code : Trees → Gv
  trees_code no_trees = gnil
  trees_code (tree_and t ts) = gcons (code t) (trees_code ts)

-- what is stored read as a tree, as a row of trees, and its second half as such a row
pub record Back : Type 0 where
  pub value : Tree
  pub trees : Trees
  pub rest : Trees

-- the first of a row of trees, `Null` where there is none, and those behind it
abbrev first : Trees → Tree
first no_trees = Null
first (tree_and t ts) = t

abbrev others : Trees → Trees
others no_trees = no_trees
others (tree_and t ts) = ts

-- the tree of the form with this number, from what it has besides trees (own) and from its trees; from 13 on it is `Null`
abbrev pub by_tag : ℕ → Gv → Trees → Tree
by_tag n own ts = pick Null (
    Int (int_at own) ∷ Text (text_at own) ∷ Name (text_at own) ∷ Truth (bool_at (num own)) ∷ Null ∷ ListOf ts ∷ Member (first ts) (text_at own)
    ∷ Index (first ts) (first (others ts)) ∷ Not (first ts) ∷ Negate (first ts) ∷ Binary (op_at (num own)) (first ts) (first (others ts))
    ∷ Apply (filter_at (num own)) (first ts) (others ts) ∷ IsDefined (first ts) (bool_at (num own)) ∷ []) n

-- what is no pair is read as `Null`, and as no trees
abbrev pub none : Back
none = record { value = Null; trees = no_trees; rest = no_trees }

-- what is stored, read in the three ways of a `Back`; what no tree is stored as is read as some tree too
abbrev pub back : Gv → Back
back gnil = none
back (gnum n) = none
back (gcons a b) = record {
  value = by_tag (num a) (head b) (back b).rest;
  trees = tree_and (back a).value (back b).trees;
  rest = (back b).trees;
}

-- what is read back is what was stored
bool_back : (b : Bool) → bool_at (bool_code b) ≡ b
bool_back true = refl
bool_back false = refl

int_back : (z : ℤ) → int_at (int_code z) ≡ z
int_back (pos n) = refl
int_back (negsuc n) = refl

text_back : (s : List ℕ) → text_at (text_code s) ≡ s
text_back [] = refl
text_back (b ∷ bs) = ap (λ t. b ∷ t) (text_back bs)

filter_back : (f : Filter) → filter_at (filter_code f) ≡ f
filter_back filter.Default = refl
filter_back filter.Length = refl
filter_back filter.Bool = refl
filter_back filter.Int = refl
filter_back filter.Join = refl

op_back : (o : Op) → op_at (op_code o) ≡ o
op_back op.Or = refl
op_back op.And = refl
op_back op.Equal = refl
op_back op.NotEqual = refl
op_back op.Less = refl
op_back op.AtMost = refl
op_back op.Greater = refl
op_back op.AtLeast = refl
op_back op.In = refl
op_back op.NotIn = refl
op_back op.Plus = refl
op_back op.Minus = refl
op_back op.Tilde = refl

mutual
  pub code_back : (t : Tree) → (back (code t)).value ≡ t
  code_back (Int z) = ap Int (int_back z)
  code_back (Text s) = ap Text (text_back s)
  code_back (Name s) = ap Name (text_back s)
  code_back (Truth b) = ap Truth (bool_back b)
  code_back Null = refl
  code_back (ListOf ts) = ap ListOf (trees_back ts)
  code_back (Member x s) = λ i. Member (code_back x i) (text_back s i)
  code_back (Index x y) = λ i. Index (code_back x i) (code_back y i)
  code_back (Not x) = ap Not (code_back x)
  code_back (Negate x) = ap Negate (code_back x)
  code_back (Binary o x y) = λ i. Binary (op_back o i) (code_back x i) (code_back y i)
  code_back (Apply f x ts) = λ i. Apply (filter_back f i) (code_back x i) (trees_back ts i)
  code_back (IsDefined x b) = λ i. IsDefined (code_back x i) (bool_back b i)

  pub trees_back : (ts : Trees) → (back (trees_code ts)).trees ≡ ts
  trees_back no_trees = refl
  trees_back (tree_and t ts) = λ i. tree_and (code_back t i) (trees_back ts i)

-- trees are stored by their codes, and different trees have different ones
abbrev pub coded_tree : Coded Tree
coded_tree = record { code = code; inj = λ x y p. sym (code_back x) ∙ ap (λ g. (back g).value) p ∙ code_back y }
