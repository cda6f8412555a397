-- What a host has learnt in the run: the facts that were gathered of it, and what was set and registered for it.
-- See Ansible's documentation, "Discovering variables: facts and magic variables".
use Rattle.std.specs.Prelude.{ℕ, List, [], ◌∷◌, Option, Some, None, unwrap_or, codes}
use Rattle.pb_value.specs.Datum.{Datum, dict, members_of, entries_of, put, value_at}
use Rattle.pb_layers.specs.Scope.{Map}
use Rattle.pb_outcome.specs.declared.item.Item.{Item}
use Rattle.pb_outcome.specs.declared.item.Planned.{Planned}
use Rattle.pb_outcome.specs.declared.item.Planned.TheVariants.{Decided, Sends}
use Rattle.pb_facts.specs.declared.facts.Gives.{Gives}
use Rattle.pb_facts.specs.declared.facts.Gives.TheVariants.{Nothing, Sets, Gathers}

pub record FactsOf : Type 0 where
  -- what `setup` gave, once it has run
  pub gathered : Option Map
  -- what `set_fact` set, and what was registered
  pub set : Map

-- nothing was gathered, set or registered yet
abbrev pub no_facts : FactsOf
no_facts = record { gathered = None; set = [] }

-- the layer of gathered facts: each under its own name, and all of them as `ansible_facts`, which hides a fact of that name
abbrev pub gathered_layer : Option Map → Map
gathered_layer None = []
gathered_layer (Some facts) = put (codes "ansible_facts") (dict (members_of facts)) facts

-- each value in turn under its name, in place of one that stands there
abbrev pub put_all : Map → Map → Map
put_all [] known = known
put_all (e ∷ es) known = put_all es (put e.0 e.1 known)

-- facts that were gathered, over those gathered before
abbrev pub merged : Map → FactsOf → FactsOf
merged given facts = record facts { gathered = Some (put_all given (unwrap_or facts.gathered [])) }

-- facts that were set, over those set and registered before
abbrev pub with_set : Map → FactsOf → FactsOf
with_set given facts = record facts { set = put_all given facts.set }

-- what a module gives beside its result: `set_fact` sets facts, `setup` gathers them, and the others give none
abbrev pub with_given : Gives → Map → FactsOf → FactsOf
with_given Nothing given facts = facts
with_given Sets given facts = with_set given facts
with_given Gathers given facts = merged given facts

-- the facts of several items, one after another
abbrev pub with_each : Gives → List Map → FactsOf → FactsOf
with_each gives [] facts = facts
with_each gives (given ∷ more) facts = with_each gives more (with_given gives given facts)

-- a result under the name that a task registers it under, if it has one
abbrev pub with_registered : Option (List ℕ) → Datum → FactsOf → FactsOf
with_registered None result facts = facts
with_registered (Some name) result facts = record facts { set = put name result facts.set }

-- the facts that stand in an item's result
abbrev pub dict_of : Datum → Option Map
dict_of (dict ms) = Some (entries_of ms)
dict_of other = None

-- the entries of a value, if it is there and a dict
abbrev pub facts_under : Option Datum → Option Map
facts_under None = None
facts_under (Some value) = dict_of value

abbrev pub facts_at : Option Map → Option Map
facts_at None = None
facts_at (Some known) = facts_under (value_at (codes "ansible_facts") known)

-- what stands under `ansible_facts` in a result, if both are dicts
abbrev pub facts_in : Datum → Option Map
facts_in result = facts_at (dict_of result)

-- the facts in the results of items that are there, in order
abbrev pub some_then : Option Map → List Map → List Map
some_then None rest = rest
some_then (Some facts) rest = facts ∷ rest

abbrev pub given_then : Planned → List Map → List Map
given_then (Decided result) rest = some_then (facts_in result.result) rest
given_then (Sends call) rest = rest

abbrev pub given_in : List Item → List Map
given_in [] = []
given_in (item ∷ items) = given_then item.step (given_in items)

-- what a finished task leaves with its host: its result is registered first, so that a fact of the same name stays
abbrev pub learnt : Gives → Option (List ℕ) → Datum → List Item → FactsOf → FactsOf
learnt gives register result items facts = with_each gives (given_in items) (with_registered register result facts)

-- what is known of a host beside any play, as it is stored: the variables of its groups, its own, its facts, what was set and
-- registered for it, and the extra variables, each over those before it
abbrev pub known_of : Map → Map → FactsOf → Map → Map
known_of group_variables host_variables facts extra =
    put_all extra (put_all facts.set (put_all (gathered_layer facts.gathered) (put_all host_variables group_variables)))

-- what stands in the layer of gathered facts
abbrev pub gathered_in : Map → Option Map
gathered_in layer = facts_under (value_at (codes "ansible_facts") layer)
