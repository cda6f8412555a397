-- An expression that doesn't name a word has the same value wherever all other names stand for the same.
use Rattle.std.proofs.Common.{◌≡◌, ℕ, zero, suc, Bool, true, false, List, [], ◌∷◌, ◌++◌, Option, Some, None, Result, Ok, Err, if◌then◌else◌, refl, ap, ◌∙◌}
use Rattle.std.specs.List.{list_any}
use Rattle.std.specs.Option.{option_map_or}
use Rattle.pb_value.specs.Datum.{Datum, null, boolean, int, text, list, dict, Items, no_items, item, Members, no_members, member}
use Rattle.pb_value.specs.Reading.{and_then, map_ok}
use Rattle.pb_value.specs.ToJson.{text_of}
use Rattle.pb_expr_syntax.specs.Tree as tree
use Rattle.pb_expr_syntax.specs.Tree.{Tree, Trees, no_trees, tree_and}
use Rattle.pb_expr_syntax.specs.declared.tree.Filter.TheVariants as filter
use Rattle.pb_layers.specs.Scope.{Map, found, has_templates}
use Rattle.pb_template.specs.Computed.{template_of}
use Rattle.pb_template.specs.declared.template.Part.{Part}
use Rattle.pb_template.specs.declared.template.Part.TheVariants.{Plain, Code}
use Rattle.pb_operators.specs.declared.fault.EvalFault.{EvalFault}
use Rattle.pb_operators.specs.Values.{Value, text_within, finished}
use Rattle.pb_items.specs.FromExprEval.{Names, value, values, each, measured, text_in, shown, render, templated, rendered, rendered_items, rendered_members, read_as, names_in, max_look_ups, eval_of, rendered_of}
use Rattle.pb_reach.specs.Named.{in_tree, in_trees, in_part, in_value, in_items, in_members}
use Rattle.pb_reach.specs.Apart.{Agree, AreApart}
use Rattle.pb_reach.proofs.Tests.{neither}

mutual
  pub value_alike : (word : List ℕ) (names others : Names) → Agree word names others → (t : Tree) → in_tree word t ≡ false → value names t ≡ value others t
  value_alike word names others agree (tree.Int z) e = refl
  value_alike word names others agree (tree.Text s) e = refl
  value_alike word names others agree (tree.Name s) e = agree s e
  value_alike word names others agree (tree.Truth b) e = refl
  value_alike word names others agree tree.Null e = refl
  value_alike word names others agree (tree.ListOf ts) e = rw (values_alike word names others agree ts e) refl
  value_alike word names others agree (tree.Member x s) e = rw (value_alike word names others agree x e) refl
  value_alike word names others agree (tree.Index x y) e =
      let both = neither (in_tree word x) (in_tree word y) e in
      rw (value_alike word names others agree x both.0, value_alike word names others agree y both.1) refl
  value_alike word names others agree (tree.Not x) e = rw (value_alike word names others agree x e) refl
  value_alike word names others agree (tree.Negate x) e = rw (value_alike word names others agree x e) refl
  value_alike word names others agree (tree.Binary o x y) e =
      let both = neither (in_tree word x) (in_tree word y) e in
      rw (value_alike word names others agree x both.0, value_alike word names others agree y both.1) refl
  value_alike word names others agree (tree.Apply filter.Default x ts) e =
      let both = neither (in_tree word x) (in_trees word ts) e in
      rw (value_alike word names others agree x both.0, each_alike word names others agree ts both.1) refl
  value_alike word names others agree (tree.Apply filter.Length x ts) e =
      let both = neither (in_tree word x) (in_trees word ts) e in
      rw (value_alike word names others agree x both.0, values_alike word names others agree ts both.1) refl
  value_alike word names others agree (tree.Apply filter.Bool x ts) e =
      let both = neither (in_tree word x) (in_trees word ts) e in
      rw (value_alike word names others agree x both.0, values_alike word names others agree ts both.1) refl
  value_alike word names others agree (tree.Apply filter.Int x ts) e =
      let both = neither (in_tree word x) (in_trees word ts) e in
      rw (value_alike word names others agree x both.0, values_alike word names others agree ts both.1) refl
  value_alike word names others agree (tree.Apply filter.Join x ts) e =
      let both = neither (in_tree word x) (in_trees word ts) e in
      rw (value_alike word names others agree x both.0, values_alike word names others agree ts both.1) refl
  value_alike word names others agree (tree.IsDefined x present) e = rw (value_alike word names others agree x e) refl

  values_alike : (word : List ℕ) (names others : Names) → Agree word names others → (ts : Trees) → in_trees word ts ≡ false → values names ts ≡ values others ts
  values_alike word names others agree no_trees e = refl
  values_alike word names others agree (tree_and t ts) e =
      let both = neither (in_tree word t) (in_trees word ts) e in
      rw (value_alike word names others agree t both.0, values_alike word names others agree ts both.1) refl

  each_alike : (word : List ℕ) (names others : Names) → Agree word names others → (ts : Trees) → in_trees word ts ≡ false → each names ts ≡ each others ts
  each_alike word names others agree no_trees e = refl
  each_alike word names others agree (tree_and t ts) e =
      let both = neither (in_tree word t) (in_trees word ts) e in
      rw (value_alike word names others agree t both.0, each_alike word names others agree ts both.1) refl

measured_alike : (word : List ℕ) (names others : Names) → Agree word names others → (t : Tree) → in_tree word t ≡ false → measured names t ≡ measured others t
unfolding measured
measured_alike word names others agree t e = ap (λ (r : Value). and_then r finished) (value_alike word names others agree t e)

-- the same of templates
pub then_alike : {A B E : Type 0} (r : Result A E) (f g : A → Result B E) → ((x : A) → f x ≡ g x) → and_then r f ≡ and_then r g
then_alike (Ok x) f g same = same x
then_alike (Err e) f g same = refl

part_alike : (word : List ℕ) (names others : Names) → Agree word names others → (p : Part) → in_part word p ≡ false → text_in names p ≡ text_in others p
part_alike word names others agree (Plain s) e = refl
part_alike word names others agree (Code t) e = ap (λ (r : Value). map_ok text_of r) (measured_alike word names others agree t e)

shown_alike : (word : List ℕ) (names others : Names) → Agree word names others → (ps : List Part) → list_any (in_part word) ps ≡ false → shown names ps ≡ shown others ps
shown_alike word names others agree [] e = refl
shown_alike word names others agree (p ∷ ps) e =
    let both = neither (in_part word p) (list_any (in_part word) ps) e in
    ap (λ (r : Result (List ℕ) EvalFault). and_then r (λ s. map_ok (λ t. s ++ t) (shown names ps))) (part_alike word names others agree p both.0)
    ∙ ap (λ (r : Result (List ℕ) EvalFault). and_then (text_in others p) (λ s. map_ok (λ t. s ++ t) r)) (shown_alike word names others agree ps both.1)

render_alike : (word : List ℕ) (names others : Names) → Agree word names others → (ps : List Part) → list_any (in_part word) ps ≡ false → render names ps ≡ render others ps
render_alike word names others agree [] e = refl
render_alike word names others agree (Code t ∷ []) e = measured_alike word names others agree t (neither (in_tree word t) false e).0
render_alike word names others agree (Code t ∷ q ∷ ps) e = ap (λ (r : Result (List ℕ) EvalFault). and_then r text_within) (shown_alike word names others agree (Code t ∷ q ∷ ps) e)
render_alike word names others agree (Plain s ∷ ps) e = ap (λ (r : Result (List ℕ) EvalFault). and_then r text_within) (shown_alike word names others agree (Plain s ∷ ps) e)

templated_alike : (word : List ℕ) (names others : Names) → Agree word names others → (parts : Option (List Part)) → option_map_or (list_any (in_part word)) parts false ≡ false →
    templated names parts ≡ templated others parts
templated_alike word names others agree None e = refl
templated_alike word names others agree (Some ps) e = render_alike word names others agree ps e

mutual
  rendered_alike : (word : List ℕ) (names others : Names) → Agree word names others → (d : Datum) → in_value word d ≡ false → rendered names d ≡ rendered others d
  rendered_alike word names others agree (text s) e = templated_alike word names others agree (template_of s) e
  rendered_alike word names others agree (list ds) e = rw (items_alike word names others agree ds e) refl
  rendered_alike word names others agree (dict ms) e = rw (members_alike word names others agree ms e) refl
  rendered_alike word names others agree null e = refl
  rendered_alike word names others agree (boolean b) e = refl
  rendered_alike word names others agree (int z) e = refl

  items_alike : (word : List ℕ) (names others : Names) → Agree word names others → (ds : Items) → in_items word ds ≡ false → rendered_items names ds ≡ rendered_items others ds
  items_alike word names others agree no_items e = refl
  items_alike word names others agree (item d ds) e =
      let both = neither (in_value word d) (in_items word ds) e in
      rw (rendered_alike word names others agree d both.0, items_alike word names others agree ds both.1) refl

  members_alike : (word : List ℕ) (names others : Names) → Agree word names others → (ms : Members) → in_members word ms ≡ false → rendered_members names ms ≡ rendered_members others ms
  members_alike word names others agree no_members e = refl
  members_alike word names others agree (member k d ms) e =
      let both = neither (in_value word d) (in_members word ms) e in
      rw (rendered_alike word names others agree d both.0, members_alike word names others agree ms both.1) refl

read_alike : (word : List ℕ) (names others : Names) → Agree word names others → (name : List ℕ) (f : Option (ℕ × Datum)) →
    ((g : ℕ × Datum) → f ≡ Some g → has_templates g.0 ≡ true → in_value word g.1 ≡ false) → read_as (rendered names) name f ≡ read_as (rendered others) name f
read_alike word names others agree name None stored = refl
read_alike word names others agree name (Some g) stored = by_kind (has_templates g.0) (stored g refl)
  where
    by_kind : (b : Bool) → (b ≡ true → in_value word g.1 ≡ false) → (if b then rendered names g.1 else Ok g.1) ≡ (if b then rendered others g.1 else Ok g.1)
    by_kind true unnamed = rendered_alike word names others agree g.1 (unnamed refl)
    by_kind false unnamed = refl

names_alike : (word : List ℕ) (scope other : List Map) → AreApart word scope other → (levels : ℕ) → Agree word (names_in scope levels) (names_in other levels)
names_alike word scope other apart zero name e = refl
names_alike word scope other apart (suc levels) name e =
    ap (λ (f : Option (ℕ × Datum)). read_as (rendered (names_in scope levels)) name f) (apart.alike name e)
    ∙ read_alike word (names_in scope levels) (names_in other levels) (names_alike word scope other apart levels) name (found name other) (apart.stored name)

-- so an expression, and a value with its templates, is the same in both scopes
pub eval_alike : (word : List ℕ) (scope other : List Map) → AreApart word scope other → (t : Tree) → in_tree word t ≡ false → eval_of scope t ≡ eval_of other t
unfolding eval_of
eval_alike word scope other apart t e = measured_alike word (names_in scope max_look_ups) (names_in other max_look_ups) (names_alike word scope other apart max_look_ups) t e

pub rendered_apart : (word : List ℕ) (scope other : List Map) → AreApart word scope other → (d : Datum) → in_value word d ≡ false → rendered_of scope d ≡ rendered_of other d
unfolding rendered_of
rendered_apart word scope other apart d e =
    ap (λ (r : Value). and_then r finished) (rendered_alike word (names_in scope max_look_ups) (names_in other max_look_ups) (names_alike word scope other apart max_look_ups) d e)
