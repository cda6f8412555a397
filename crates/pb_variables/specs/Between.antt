-- How the variables of a host follow what it learnt under some names.
use Rattle.std.specs.Prelude.{◌≡◌, ◌||◌, ◌++◌, ℕ, Bool, false, List, [], ◌∷◌, Option, Some, None, if◌then◌else◌, codes}
use Rattle.std.specs.Option.{option_or}
use Rattle.std.specs.Str.{bytes_eq}
use Rattle.pb_value.specs.Datum.{Datum, named, put, value_at}
use Rattle.pb_layers.specs.Scope.{Map}
use Rattle.pb_facts.specs.Book.{row_of}
use Rattle.pb_facts.specs.Facts.{FactsOf, gathered_layer}
use Rattle.pb_facts.specs.Update.{IsBetween}
use Rattle.pb_facts.specs.declared.update.FactsUndo.{FactsUndo}
use Rattle.pb_facts.specs.declared.update.FactsUndo.TheVariants.{Nothing, Stood, Gathered}
use Rattle.pb_inventory.specs.InventoryOf.{InventoryOf}
use Rattle.pb_variables.specs.ByName.{last_at, variable_of_host}

-- a value goes under a name, if there is one and nothing that comes over it has the name
abbrev pub put_found : List ℕ → (given found : Option Datum) → Map → Map
put_found name (Some given) found known = known
put_found name None None known = known
put_found name None (Some value) known = put name value known

-- what stands under a name of a layer goes there, unless a layer over it has the name
abbrev pub put_name : Map → Map → List ℕ → Map → Map
put_name over layer name known = put_found name (value_at name over) (value_at name layer) known

-- what was set under each of these names goes there, unless an extra variable has it
abbrev pub put_names : Map → Map → List (List ℕ × Option Datum) → Map → Map
put_names extra set [] known = known
put_names extra set (e ∷ log) known = put_names extra set log (put_name extra set e.0 known)

-- what stands under a name in the layer of gathered facts goes there, unless an extra variable or what was set has the name
abbrev pub put_fact : Map → Map → Map → List ℕ → Map → Map
put_fact extra set layer name known = put_found name (option_or (value_at name extra) (value_at name set)) (value_at name layer) known

-- and what stands there under each of these names
abbrev pub put_facts : Map → Map → Map → List (List ℕ × Option Datum) → Map → Map
put_facts extra set layer [] known = known
put_facts extra set layer (e ∷ log) known = put_facts extra set layer log (put_fact extra set layer e.0 known)

-- the names under which values came over what was set, with what stood there
abbrev pub names_set : FactsUndo → List (List ℕ × Option Datum)
names_set Nothing = []
names_set (Stood log) = named log.items
names_set (Gathered stood facts layer) = named stood.items

-- the names of facts, and the one under which all of them stand
abbrev pub with_all : List (List ℕ × Option Datum) → List (List ℕ × Option Datum)
with_all log = log ++ (codes "ansible_facts", None) ∷ []

-- the names under which something came into the layer of gathered facts
abbrev pub names_gathered : FactsUndo → List (List ℕ × Option Datum)
names_gathered Nothing = []
names_gathered (Stood log) = []
names_gathered (Gathered stood facts layer) = with_all (named facts.items)

-- a host's variables, among which there is put what lies between what it knew and this
abbrev pub follows : Map → FactsOf → FactsUndo → Map → Map
follows extra facts past known = put_facts extra facts.set (gathered_layer facts.gathered) (names_gathered past) (put_names extra facts.set (names_set past) known)

-- whether a name is one of these
abbrev pub is_learnt : List ℕ → List (List ℕ × Option Datum) → Bool
is_learnt name [] = false
is_learnt name (e ∷ log) = bytes_eq name e.0 || is_learnt name log

-- a host's variable of a name once this lies between what it knew and what it knows: of a name that was set the extra variable, or else what was set in
-- the end; of one that was gathered the extra variable, or else what is set, or else what was gathered in the end; of any other what it was before
abbrev pub variable_after : InventoryOf → Map → List FactsOf → FactsUndo → FactsOf → ℕ → List ℕ → Option Datum
variable_after inventory extra before past facts host name =
    if is_learnt name (names_set past) then option_or (last_at name extra) (value_at name facts.set)
    else if is_learnt name (names_gathered past)
    then option_or (last_at name extra) (option_or (last_at name facts.set) (value_at name (gathered_layer facts.gathered)))
    else variable_of_host inventory extra before host name

-- so a host's variables follow what it learnt
abbrev pub VariablesFollow : InventoryOf → Map → FactsUndo → FactsOf → ℕ → Type 0
VariablesFollow inventory extra past facts host =
    (before now : List FactsOf) → facts ≡ row_of now host → IsBetween past (row_of before host) facts
    → (name : List ℕ) → variable_of_host inventory extra now host name ≡ variable_after inventory extra before past facts host name
