-- What a host's variables are once it learnt values under some names.
use Rattle.std.proofs.Common.{◌≡◌, ◌||◌, ℕ, Bool, true, false, cond, List, [], ◌∷◌, refl, sym, ap, ◌∙◌}
use Rattle.std.specs.Prelude.{Option, Some}
use Rattle.std.specs.Option.{option_or}
use Rattle.std.specs.Str.{bytes_eq}
use Rattle.std.proofs.lemmas.Map.Text.{is_eq-slice_cmp}
use Rattle.std.proofs.lemmas.Slice.Eq.{bytes_eq-Decides}
use Rattle.pb_value.specs.Datum.{Datum, named, put, value_at}
use Rattle.pb_value.proofs.Puts.{value_at-put, value_at-put_other}
use Rattle.pb_layers.specs.Scope.{Map}
use Rattle.pb_facts.specs.Book.{row_of}
use Rattle.pb_facts.specs.Facts.{FactsOf, put_all, gathered_layer, known_of}
use Rattle.pb_facts.specs.Update.{IsOrdered, IsBetween}
use Rattle.pb_facts.specs.declared.update.FactsUndo.{FactsUndo}
use Rattle.pb_facts.specs.declared.update.FactsUndo.TheVariants.{Nothing, Stood, Gathered}
use Rattle.pb_inventory.specs.InventoryOf.{InventoryOf}
use Rattle.pb_inventory.specs.Vars.{vars_from_groups, vars_of_host}
use Rattle.pb_variables.specs.Between.{is_learnt, names_set, names_gathered, with_all, VariablesFollow}
use Rattle.pb_variables.specs.ByName.{last_at, variable_of_host}
use Rattle.pb_variables.proofs.Gathered.{layer_ordered, gathered_puts}
use Rattle.pb_variables.proofs.Named.{put_all_at, variables_by_name}
use Rattle.pb_variables.proofs.Puts.{PutsTo, leads_puts, stays, put_here, put_over, put_ordered, puts_ordered}

-- ---- under another name what was set is what it was
other_at : (name : List ℕ) (k : List ℕ) (v : Datum) (s base : Map) (rest : Bool) (b : Bool) → bytes_eq name k ≡ b → (b || rest) ≡ false → IsOrdered s
    → (value_at name (put_all (put k v s) base) ≡ value_at name (put_all s base)) × (rest ≡ false)
other_at name k v s base rest true e n h = cc
other_at name k v s base rest false e n h =
    (ap (λ (m : Map). value_at name m) (put_over k v s base h) ∙ value_at-put_other name k v (put_all s base) (is_eq-slice_cmp name k ∙ e), n)

other_stays : (name : List ℕ) (log : List (List ℕ × Option Datum)) (s t base : Map) → PutsTo log s t → IsOrdered s → is_learnt name log ≡ false → value_at name (put_all t base) ≡ value_at name (put_all s base)
other_stays name [] s t base l h n = ap (λ (m : Map). value_at name (put_all m base)) (sym l)
other_stays name (b ∷ log) s t base l h n =
    let other = other_at name b.0 l.0 s base (is_learnt name log) (bytes_eq name b.0) refl n h in
    other_stays name log (put b.0 l.0 s) t base l.1 (put_ordered s b.0 l.0 h) other.1 ∙ other.0

-- ---- under a name that was learnt it stands over all else
learnt_at : (name k : List ℕ) (v : Datum) (log : List (List ℕ × Option Datum)) (s t : Map) (b : Bool) → bytes_eq name k ≡ b → (b || is_learnt name log) ≡ true → PutsTo log (put k v s) t
    → (is_learnt name log ≡ true → (y : Datum) × (value_at name t ≡ Some y)) → (y : Datum) × (value_at name t ≡ Some y)
learnt_at name k v log s t true e n l rest =
    stays name v log (put k v s) t (ap (λ (j : List ℕ). value_at j (put k v s)) ((bytes_eq-Decides name k).0 e) ∙ value_at-put k v s) l
learnt_at name k v log s t false e n l rest = rest n

learnt_stands : (name : List ℕ) (log : List (List ℕ × Option Datum)) (s t : Map) → PutsTo log s t → is_learnt name log ≡ true → (y : Datum) × (value_at name t ≡ Some y)
learnt_stands name [] s t l n = cc
learnt_stands name (b ∷ log) s t l n = learnt_at name b.0 l.0 log s t (bytes_eq name b.0) refl n l.1 (learnt_stands name log (put b.0 l.0 s) t l.1)

over_all : (name : List ℕ) (y : Datum) (t base : Map) → IsOrdered t → value_at name t ≡ Some y → value_at name (put_all t base) ≡ value_at name t
over_all name y t base h f =
    ap (λ (m : Map). value_at name (put_all m base)) (sym (put_here name y t h f)) ∙ ap (λ (m : Map). value_at name m) (put_over name y t base h)
    ∙ value_at-put name y (put_all t base) ∙ sym f

-- ---- so under each name
abbrev Changes : List ℕ → List (List ℕ × Option Datum) → Map → Map → Type 0
Changes name log s t = (base : Map) → value_at name (put_all t base) ≡ cond (is_learnt name log) (value_at name t) (value_at name (put_all s base))

changes : (name : List ℕ) (log : List (List ℕ × Option Datum)) (s t : Map) → PutsTo log s t → IsOrdered s → Changes name log s t
changes name log s t l h base = by_name (is_learnt name log) refl
  where
    by_name : (b : Bool) → is_learnt name log ≡ b → value_at name (put_all t base) ≡ cond b (value_at name t) (value_at name (put_all s base))
    by_name true n =
        let stood = learnt_stands name log s t l n in
        over_all name stood.0 t base (puts_ordered log s t l h) stood.1
    by_name false n = other_stays name log s t base l h n

unchanged : (name : List ℕ) (s t : Map) → s ≡ t → Changes name [] s t
unchanged name s t e base = ap (λ (m : Map). value_at name (put_all m base)) (sym e)

set_changes : (name : List ℕ) (past : FactsUndo) (was now : FactsOf) → IsBetween past was now → Changes name (names_set past) was.set now.set
set_changes name Nothing was now h = unchanged name was.set now.set (ap (λ (facts : FactsOf). facts.set) h)
set_changes name (Stood log) was now h = changes name (named log.items) was.set now.set (leads_puts (named log.items) was.set now.set h.2) h.1
set_changes name (Gathered stood facts layer) was now h = changes name (named stood.items) was.set now.set (leads_puts (named stood.items) was.set now.set h.1) h.0

layer_changes : (name : List ℕ) (past : FactsUndo) (was now : FactsOf) → IsBetween past was now → Changes name (names_gathered past) (gathered_layer was.gathered) (gathered_layer now.gathered)
layer_changes name Nothing was now h = unchanged name (gathered_layer was.gathered) (gathered_layer now.gathered) (ap (λ (facts : FactsOf). gathered_layer facts.gathered) h)
layer_changes name (Stood log) was now h = unchanged name (gathered_layer was.gathered) (gathered_layer now.gathered) (ap (λ (gathered : Option Map). gathered_layer gathered) h.0)
layer_changes name (Gathered stood facts layer) was now h =
    changes name (with_all (named facts.items)) (gathered_layer was.gathered) (gathered_layer now.gathered) (gathered_puts (named facts.items) was.gathered now.gathered h.2) (layer_ordered was.gathered h.2.0)

-- ---- a host's variable of a name
abbrev stored : InventoryOf → ℕ → Map
stored inventory host = put_all (vars_of_host inventory host) (vars_from_groups inventory host)

abbrev below : InventoryOf → ℕ → FactsOf → Map
below inventory host facts = put_all (gathered_layer facts.gathered) (stored inventory host)

variable_is : (inventory : InventoryOf) (extra : Map) (learnt : List FactsOf) (facts : FactsOf) (host : ℕ) (name : List ℕ) → facts ≡ row_of learnt host
    → variable_of_host inventory extra learnt host name ≡ option_or (last_at name extra) (value_at name (put_all facts.set (below inventory host facts)))
variable_is inventory extra learnt facts host name is =
    sym (variables_by_name inventory extra learnt host name)
    ∙ ap (λ (f : FactsOf). value_at name (known_of (vars_from_groups inventory host) (vars_of_host inventory host) f extra)) (sym is)
    ∙ put_all_at name extra (put_all facts.set (below inventory host facts))

by_change : (inventory : InventoryOf) (extra : Map) (before now : List FactsOf) (facts was : FactsOf) (host : ℕ) (name : List ℕ) (b c : Bool) → facts ≡ row_of now host → was ≡ row_of before host
    → ((base : Map) → value_at name (put_all facts.set base) ≡ cond b (value_at name facts.set) (value_at name (put_all was.set base)))
    → ((base : Map) → value_at name (put_all (gathered_layer facts.gathered) base) ≡ cond c (value_at name (gathered_layer facts.gathered)) (value_at name (put_all (gathered_layer was.gathered) base)))
    → variable_of_host inventory extra now host name ≡ cond
    b
    (option_or (last_at name extra) (value_at name facts.set))
    (cond c (option_or (last_at name extra) (option_or (last_at name facts.set) (value_at name (gathered_layer facts.gathered)))) (variable_of_host inventory extra before host name))
by_change inventory extra before now facts was host name true c is old set layer =
    variable_is inventory extra now facts host name is ∙ ap (option_or (last_at name extra)) (set (below inventory host facts))
by_change inventory extra before now facts was host name false true is old set layer =
    variable_is inventory extra now facts host name is
    ∙ ap (option_or (last_at name extra)) (put_all_at name facts.set (below inventory host facts) ∙ ap (option_or (last_at name facts.set)) (layer (stored inventory host)))
by_change inventory extra before now facts was host name false false is old set layer =
    variable_is inventory extra now facts host name is
    ∙ ap
    (option_or (last_at name extra))
    (set (below inventory host facts) ∙ put_all_at name was.set (below inventory host facts) ∙ ap (option_or (last_at name was.set)) (layer (stored inventory host))
    ∙ sym (put_all_at name was.set (below inventory host was)))
    ∙ sym (variable_is inventory extra before was host name old)

pub variables_follow : (inventory : InventoryOf) (extra : Map) (past : FactsUndo) (facts : FactsOf) (host : ℕ) → VariablesFollow inventory extra past facts host
variables_follow inventory extra past facts host =
    λ before now is between name.
    by_change inventory extra before now facts (row_of before host) host name (is_learnt name (names_set past)) (is_learnt name (names_gathered past)) is refl
    (set_changes name past (row_of before host) facts between) (layer_changes name past (row_of before host) facts between)
