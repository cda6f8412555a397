-- What a task says itself of an item whose module ran: whether it changed something, and whether it failed. The item's result is
-- seen under the name that it registers its result under (Ansible's documentation, "Error handling in playbooks").
use Rattle.std.specs.Prelude.{ℕ, Bool, List, [], ◌∷◌, Option, Some, None, Result, Ok, Err, codes}
use Rattle.pb_value.specs.Datum.{Datum, boolean, dict, members_of, entries_of, put}
use Rattle.pb_value.specs.Reading.{and_then, map_ok}
use Rattle.pb_layers.specs.Scope.{Map, scope, with_seen}
use Rattle.pb_expr_syntax.specs.Tree.{Tree}
use Rattle.pb_expr_eval.specs.Messages.{message_of}
use Rattle.pb_operators.specs.declared.fault.EvalFault.{EvalFault}
use Rattle.pb_outcome.specs.Decided.{faulty_result}
use Rattle.pb_outcome.specs.declared.gather.Ending.{Ending}
use Rattle.pb_outcome.specs.declared.gather.Ending.TheVariants.{Ran}
use Rattle.pb_outcome.specs.declared.gather.ItemResult.{ItemResult}
use Rattle.pb_conditions.specs.Conditions.{holds}

-- a result with this under one of its keys
abbrev pub with_key : List ℕ → Bool → Datum → Datum
with_key key b (dict ms) = dict (members_of (put key (boolean b) (entries_of ms)))
with_key key b other = other

-- where a module ran, whether it changed something is this; each other ending stays as it is
abbrev pub ended_changed : Bool → Ending → Ending
ended_changed b (Ran changed failed) = Ran b failed
ended_changed b ending = ending

-- the same of whether it failed
abbrev pub ended_failed : Bool → Ending → Ending
ended_failed b (Ran changed failed) = Ran changed b
ended_failed b ending = ending

-- an item of which this is said of whether it changed something: in its ending, and in its result
abbrev pub changed_to : ItemResult → Bool → ItemResult
changed_to item b = record { ending = ended_changed b item.ending; result = with_key (codes "changed") b item.result }

-- the same of whether it failed
abbrev pub failed_to : ItemResult → Bool → ItemResult
failed_to item b = record { ending = ended_failed b item.ending; result = with_key (codes "failed") b item.result }

-- the scope of an item, with these variables among those that were set and registered
abbrev pub Sees : Type 0
Sees = Map → List Map

-- layers with these variables put, one after another, among those that were set and registered
abbrev pub seen_in : Map → List Map → List Map
seen_in [] layers = layers
seen_in (e ∷ es) layers = seen_in es (with_seen (Some e) layers)

-- the scope of these layers, with the magic variables and the loop variable, in this order
abbrev pub sees : List Map → Map → Map → Sees
sees layers magic loop_variable seen = scope (seen_in seen layers) magic loop_variable

-- a result is seen under the name that the task registers it under, if it has one
abbrev pub seen_as : Option (List ℕ) → Datum → Map
seen_as None result = []
seen_as (Some name) result = (name, result) ∷ []

-- an item, changed by whether these conditions hold, which see its result; without conditions it stays as it is
abbrev pub by_condition : (ItemResult → Bool → ItemResult) → Sees → Option (List ℕ) → Option (List Tree) → ItemResult → Result ItemResult EvalFault
by_condition change sees register None item = Ok item
by_condition change sees register (Some conditions) item = map_ok (change item) (holds (sees (seen_as register item.result)) conditions)

-- whether it changed something, and then whether it failed, which sees the first
abbrev pub by_conditions : Sees → Option (List ℕ) → Option (List Tree) → Option (List Tree) → ItemResult → Result ItemResult EvalFault
by_conditions sees register changed_when failed_when item =
    and_then (by_condition changed_to sees register changed_when item) (by_condition failed_to sees register failed_when)

-- a fault of reading is the item's
abbrev pub or_faulty : Result ItemResult EvalFault → ItemResult
or_faulty (Ok item) = item
or_faulty (Err fault) = faulty_result (message_of fault)

abbrev pub with_conditions_by : Ending → Sees → Option (List ℕ) → Option (List Tree) → Option (List Tree) → ItemResult → ItemResult
with_conditions_by (Ran changed failed) sees register changed_when failed_when item = or_faulty (by_conditions sees register changed_when failed_when item)
with_conditions_by ending sees register changed_when failed_when item = item

-- an item whose module ran is what its task says of it, and each other stays as it is
abbrev pub with_conditions : Sees → Option (List ℕ) → Option (List Tree) → Option (List Tree) → ItemResult → ItemResult
with_conditions sees register changed_when failed_when item = with_conditions_by item.ending sees register changed_when failed_when item
