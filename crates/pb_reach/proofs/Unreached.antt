-- An expression of which no name leads to another one has the same value whatever stands under a name that it doesn't have.
use Rattle.std.proofs.Common.{◌≡◌, ℕ, zero, suc, ◌+◌, Bool, true, false, ◌&&◌, nat_eq, List, [], ◌∷◌, Option, Some, None, unwrap_or, option_map, Ok, if◌then◌else◌, length, codes, refl, sym, ap, subst, ◌∙◌, arith, true≢false, eqb-true}
use Rattle.std.specs.Option.{option_map_or}
use Rattle.std.specs.Str.{bytes_eq}
use Rattle.pb_value.specs.Datum.{Datum, put, value_at}
use Rattle.pb_value.specs.Reading.{and_then}
use Rattle.pb_expr_syntax.specs.Tree as tree
use Rattle.pb_expr_syntax.specs.Tree.{Tree, Trees, no_trees, tree_and, trees_of}
use Rattle.pb_expr_syntax.specs.declared.tree.Filter.TheVariants as filter
use Rattle.pb_layers.specs.Scope.{Map, found, or_else, has_templates, scope, with_seen}
use Rattle.pb_operators.specs.Values.{Value, finished}
use Rattle.pb_items.specs.FromExprEval.{Names, value, values, each, measured, rendered, read_as, names_in, max_look_ups, eval_of}
use Rattle.pb_items.specs.FromConditions.{holds, seen_in, sees}
use Rattle.pb_reach.specs.Apart.{SameBut}
use Rattle.pb_reach.specs.Named.{in_tree, in_trees}
use Rattle.pb_mentions.specs.Mentions.{mentions}
use Rattle.pb_reach.specs.Reached.{some_name, some_name_in, leads_on, maps_lead, layers_lead}
use Rattle.pb_reach.proofs.Still.{rendered_still}
use Rattle.pb_reach.proofs.Stored.{above, ninth, eleven_of}
use Rattle.pb_reach.proofs.Tests.{neither, where_so}

-- every name that isn't the word and doesn't pass the test stands for the same
abbrev AgreeOn : List ℕ → (List ℕ → Bool) → Names → Names → Type 0
AgreeOn word test names others = (name : List ℕ) → bytes_eq name word ≡ false → test name ≡ false → names name ≡ others name

mutual
  value_on : (word : List ℕ) (test : List ℕ → Bool) (names others : Names) → AgreeOn word test names others → (t : Tree) → in_tree word t ≡ false → some_name test t ≡ false → value names t ≡ value others t
  value_on word test names others agree (tree.Int z) e g = refl
  value_on word test names others agree (tree.Text s) e g = refl
  value_on word test names others agree (tree.Name s) e g = agree s e g
  value_on word test names others agree (tree.Truth b) e g = refl
  value_on word test names others agree tree.Null e g = refl
  value_on word test names others agree (tree.ListOf ts) e g = rw (values_on word test names others agree ts e g) refl
  value_on word test names others agree (tree.Member x s) e g = rw (value_on word test names others agree x e g) refl
  value_on word test names others agree (tree.Index x y) e g =
      let both = neither (in_tree word x) (in_tree word y) e in
      let plain = neither (some_name test x) (some_name test y) g in
      rw (value_on word test names others agree x both.0 plain.0, value_on word test names others agree y both.1 plain.1) refl
  value_on word test names others agree (tree.Not x) e g = rw (value_on word test names others agree x e g) refl
  value_on word test names others agree (tree.Negate x) e g = rw (value_on word test names others agree x e g) refl
  value_on word test names others agree (tree.Binary o x y) e g =
      let both = neither (in_tree word x) (in_tree word y) e in
      let plain = neither (some_name test x) (some_name test y) g in
      rw (value_on word test names others agree x both.0 plain.0, value_on word test names others agree y both.1 plain.1) refl
  value_on word test names others agree (tree.Apply filter.Default x ts) e g =
      let both = neither (in_tree word x) (in_trees word ts) e in
      let plain = neither (some_name test x) (some_name_in test ts) g in
      rw (value_on word test names others agree x both.0 plain.0, each_on word test names others agree ts both.1 plain.1) refl
  value_on word test names others agree (tree.Apply filter.Length x ts) e g =
      let both = neither (in_tree word x) (in_trees word ts) e in
      let plain = neither (some_name test x) (some_name_in test ts) g in
      rw (value_on word test names others agree x both.0 plain.0, values_on word test names others agree ts both.1 plain.1) refl
  value_on word test names others agree (tree.Apply filter.Bool x ts) e g =
      let both = neither (in_tree word x) (in_trees word ts) e in
      let plain = neither (some_name test x) (some_name_in test ts) g in
      rw (value_on word test names others agree x both.0 plain.0, values_on word test names others agree ts both.1 plain.1) refl
  value_on word test names others agree (tree.Apply filter.Int x ts) e g =
      let both = neither (in_tree word x) (in_trees word ts) e in
      let plain = neither (some_name test x) (some_name_in test ts) g in
      rw (value_on word test names others agree x both.0 plain.0, values_on word test names others agree ts both.1 plain.1) refl
  value_on word test names others agree (tree.Apply filter.Join x ts) e g =
      let both = neither (in_tree word x) (in_trees word ts) e in
      let plain = neither (some_name test x) (some_name_in test ts) g in
      rw (value_on word test names others agree x both.0 plain.0, values_on word test names others agree ts both.1 plain.1) refl
  value_on word test names others agree (tree.IsDefined x present) e g = rw (value_on word test names others agree x e g) refl

  values_on : (word : List ℕ) (test : List ℕ → Bool) (names others : Names) → AgreeOn word test names others → (ts : Trees) → in_trees word ts ≡ false → some_name_in test ts ≡ false →
      values names ts ≡ values others ts
  values_on word test names others agree no_trees e g = refl
  values_on word test names others agree (tree_and t ts) e g =
      let both = neither (in_tree word t) (in_trees word ts) e in
      let plain = neither (some_name test t) (some_name_in test ts) g in
      rw (value_on word test names others agree t both.0 plain.0, values_on word test names others agree ts both.1 plain.1) refl

  each_on : (word : List ℕ) (test : List ℕ → Bool) (names others : Names) → AgreeOn word test names others → (ts : Trees) → in_trees word ts ≡ false → some_name_in test ts ≡ false →
      each names ts ≡ each others ts
  each_on word test names others agree no_trees e g = refl
  each_on word test names others agree (tree_and t ts) e g =
      let both = neither (in_tree word t) (in_trees word ts) e in
      let plain = neither (some_name test t) (some_name_in test ts) g in
      rw (value_on word test names others agree t both.0 plain.0, each_on word test names others agree ts both.1 plain.1) refl

measured_on : (word : List ℕ) (test : List ℕ → Bool) (names others : Names) → AgreeOn word test names others → (t : Tree) → in_tree word t ≡ false → some_name test t ≡ false →
    measured names t ≡ measured others t
unfolding measured
measured_on word test names others agree t e g = ap (λ (r : Value). and_then r finished) (value_on word test names others agree t e g)

-- Every name but the word stands for the same in both scopes, and what doesn't pass the test stands for no template with an expression there.
pub record IsPlain (word : List ℕ) (test : List ℕ → Bool) (scope other : List Map) : Type 0 where
  pub alike : (name : List ℕ) → bytes_eq name word ≡ false → found name scope ≡ found name other
  pub plain : (name : List ℕ) (f : ℕ × Datum) → test name ≡ false → found name other ≡ Some f → has_templates f.0 ≡ true → mentions (codes "{{") f.1 ≡ false

read_plain : (names others : Names) (name : List ℕ) (f : Option (ℕ × Datum)) → ((g : ℕ × Datum) → f ≡ Some g → has_templates g.0 ≡ true → mentions (codes "{{") g.1 ≡ false) →
    read_as (rendered names) name f ≡ read_as (rendered others) name f
read_plain names others name None plain = refl
read_plain names others name (Some g) plain = by_kind (has_templates g.0) (plain g refl)
  where
    by_kind : (b : Bool) → (b ≡ true → mentions (codes "{{") g.1 ≡ false) → (if b then rendered names g.1 else Ok g.1) ≡ (if b then rendered others g.1 else Ok g.1)
    by_kind true still = rendered_still names others g.1 (still refl)
    by_kind false still = refl

names_on : (word : List ℕ) (test : List ℕ → Bool) (scope other : List Map) → IsPlain word test scope other → (levels : ℕ) → AgreeOn word test (names_in scope levels) (names_in other levels)
names_on word test scope other same zero name e g = refl
names_on word test scope other same (suc levels) name e g =
    ap (λ (f : Option (ℕ × Datum)). read_as (rendered (names_in scope levels)) name f) (same.alike name e)
    ∙ read_plain (names_in scope levels) (names_in other levels) name (found name other) (λ f here. same.plain name f g here)

eval_on : (word : List ℕ) (test : List ℕ → Bool) (scope other : List Map) → IsPlain word test scope other → (t : Tree) → in_tree word t ≡ false → some_name test t ≡ false → eval_of scope t ≡ eval_of other t
unfolding eval_of
eval_on word test scope other same t e g = measured_on word test (names_in scope max_look_ups) (names_in other max_look_ups) (names_on word test scope other same max_look_ups) t e g

holds_on : (word : List ℕ) (test : List ℕ → Bool) (scope other : List Map) → IsPlain word test scope other → (cs : List Tree) → in_trees word (trees_of cs) ≡ false → some_name_in test (trees_of cs) ≡ false →
    holds scope cs ≡ holds other cs
holds_on word test scope other same [] e g = refl
holds_on word test scope other same (c ∷ cs) e g =
    let both = neither (in_tree word c) (in_trees word (trees_of cs)) e in
    let plain = neither (some_name test c) (some_name_in test (trees_of cs)) g in
    rw (eval_on word test scope other same c both.0 plain.0, holds_on word test scope other same cs both.1 plain.1) refl

-- what is found of a name that stands for no template with an expression
found_plain : (name : List ℕ) (maps : List Map) → maps_lead maps name ≡ false → (f : ℕ × Datum) → found name maps ≡ Some f → has_templates f.0 ≡ true → mentions (codes "{{") f.1 ≡ false
found_plain name [] e f here has = absurd (true≢false (ap (λ (o : Option (ℕ × Datum)). option_map_or (λ d. false) o true) here))
found_plain name (m ∷ below) e f here has =
    let both = neither (has_templates (length below + 1) && leads_on name m) (maps_lead below name) e in
    by_value (value_at name m) both.0 (λ p. found_plain name below both.1 f p has) here
  where
    by_value : (o : Option Datum) → (has_templates (length below + 1) && option_map_or (mentions (codes "{{")) o false) ≡ false → (found name below ≡ Some f → mentions (codes "{{") f.1 ≡ false) →
        or_else (option_map (λ v. (length below + 1, v)) o) (found name below) ≡ Some f → mentions (codes "{{") f.1 ≡ false
    by_value (Some v) not_led rest p =
        let same : (length below + 1, v) ≡ f = ap (λ (o : Option (ℕ × Datum)). unwrap_or o f) p in
        let has_here : has_templates (length below + 1) ≡ true = subst (λ (g : ℕ × Datum). has_templates g.0 ≡ true) (sym same) has in
        subst (λ (g : ℕ × Datum). mentions (codes "{{") g.1 ≡ false) same (where_so (has_templates (length below + 1)) (mentions (codes "{{") v) has_here not_led)
    by_value None not_led rest p = rest p

-- over the layers stand no templates, nor does what is seen beside the registered results
scope_plain : (name : List ℕ) (layers : List Map) (magic variable : Map) → length layers ≡ 11 → maps_lead layers name ≡ false → maps_lead (scope layers magic variable) name ≡ false
scope_plain name layers magic variable eleven e = above (length layers) (leads_on name variable) (leads_on name magic) (maps_lead layers name) eleven e

seen_one : (name : List ℕ) (entry : List ℕ × Datum) (layers : List Map) → length layers ≡ 11 → maps_lead layers name ≡ false →
    (length (with_seen (Some entry) layers) ≡ 11) × (maps_lead (with_seen (Some entry) layers) name ≡ false)
seen_one name entry [] eleven e = (eleven, e)
seen_one name entry (a ∷ []) eleven e = (eleven, e)
seen_one name entry (a ∷ b ∷ []) eleven e = (eleven, e)
seen_one name entry (a ∷ b ∷ c ∷ below) eleven e =
    let eight : length below ≡ 8 = omega (arith, eleven) in (
      eleven,
      ninth (length below) (has_templates (suc (suc (length below)) + 1) && leads_on name a)
          (has_templates (suc (length below) + 1) && leads_on name b) (leads_on name c)
          (leads_on name (put entry.0 entry.1 c)) (maps_lead below name) eight e,
    )

seen_plain : (name : List ℕ) (seen : Map) (layers : List Map) → length layers ≡ 11 → maps_lead layers name ≡ false →
    (length (seen_in seen layers) ≡ 11) × (maps_lead (seen_in seen layers) name ≡ false)
seen_plain name [] layers eleven e = (eleven, e)
seen_plain name (entry ∷ seen) layers eleven e = let one = seen_one name entry layers eleven e in seen_plain name seen (with_seen (Some entry) layers) one.0 one.1

scopes_plain : (word : List ℕ) (layers : List Map) (magic other variable seen : Map) → SameBut word magic other →
    IsPlain word (layers_lead layers) (sees layers magic variable seen) (sees layers other variable seen)
scopes_plain word layers magic other variable seen same =
    record {
      alike =
          λ name n.
          ap
          (λ (o : Option Datum).
          or_else (option_map (λ v. (length (magic ∷ seen_in seen layers) + 1, v)) (value_at name variable)) (or_else (option_map (λ v. (length (seen_in seen layers) + 1, v)) o) (found name (seen_in seen layers))))
          (same name n);
      plain =
          λ name f g here has.
          let own = eleven_of (nat_eq (length layers) 11) (maps_lead layers name) g in
          let known = seen_plain name seen layers (eqb-true (length layers) 11 own.0) own.1 in
          found_plain name (scope (seen_in seen layers) other variable) (scope_plain name (seen_in seen layers) other variable known.0 known.1) f here has;
    }

-- so conditions that don't have the word, and reach no template, are the same in both scopes
pub holds_unreached : (word : List ℕ) (layers : List Map) (magic other variable seen : Map) → SameBut word magic other → (cs : List Tree) → in_trees word (trees_of cs) ≡ false →
    some_name_in (layers_lead layers) (trees_of cs) ≡ false → holds (sees layers magic variable seen) cs ≡ holds (sees layers other variable seen) cs
holds_unreached word layers magic other variable seen same cs e g =
    holds_on word (layers_lead layers) (sees layers magic variable seen) (sees layers other variable seen) (scopes_plain word layers magic other variable seen same) cs e g
