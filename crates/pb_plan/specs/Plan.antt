-- A plan as plain lists: what the machine reads of a bundle.
use Rattle.std.specs.Prelude.{◌≡◌, ℕ, zero, suc, Bool, false, List, [], length, map}
use Rattle.pb_batches.specs.declared.serial.Entry.{Entry}
use Rattle.pb_strategies.specs.declared.strategy.Strategy.{Strategy}
use Rattle.pb_strategies.specs.declared.strategy.Strategy.TheVariants.{Linear}
use Rattle.pb_tree.specs.Tree.{Nodes, Nothing, Task, Flush, TreeOf, size_of}
use Rattle.pb_inventory.specs.InventoryOf.{InventoryOf}
use Rattle.pb_layers.specs.Scope.{Map}
use Rattle.pb_places.specs.Caught.{are_caught, caught_places}
use Rattle.pb_places.specs.Place.{PlaceOf}

-- a play: its name, its tree, what stands at each place of the tree, of each host by its number whether it is one of the play's own, how the hosts of a
-- batch go through its tasks, what it says of the sizes of its batches, of how many of a batch's hosts in a hundred may fail, its variables, and those that
-- the play gives by itself
pub record PlayOf : Type 0 where
  pub name : List ℕ
  pub tree : TreeOf
  pub places : List PlaceOf
  pub hosts : List Bool
  pub strategy : Strategy
  pub serial : List Entry
  pub max_fail_percentage : ℕ
  pub vars : Map
  pub magic : Map

-- what a play has at its places fits its tree: there is a record for each place, and it says of a failure there what the tree says
pub record Fits (play : PlayOf) : Type 0 where
  pub places : length play.places ≡ size_of play.tree
  pub caught : are_caught play.places ≡ caught_places play.tree

-- of each place how many hosts may run its task at once; 0 is any number
abbrev pub throttles_of : List PlaceOf → List ℕ
throttles_of places = map (λ (place : PlaceOf). place.throttle) places

-- and whether the first host of a batch runs its task for all
abbrev pub run_once_of : List PlaceOf → List Bool
run_once_of places = map (λ (place : PlaceOf). place.run_once) places

-- the plays in order, how many hosts may run at once, whether there is a program that gathers facts, lines that tell what was odd in the bundle, the
-- inventory with the names of its hosts by their numbers and its variables, the extra variables, and those that the plan gives by itself, but for
-- `hostvars`, which tells of what hosts learn in a run
pub record PlanOf : Type 0 where
  pub plays : List PlayOf
  pub forks : ℕ
  pub has_facts_program : Bool
  pub warnings : List (List ℕ)
  pub inventory : InventoryOf
  pub extra : Map
  pub magic : Map

-- what worked examples are made of: the tree of a play with so many tasks in each of its three lists, hosts in no group, and a play and a plan without
-- variables or a facts program; the play is linear, and its hosts are one batch
abbrev pub tasks_then : ℕ → Nodes → Nodes
tasks_then zero rest = rest
tasks_then (suc n) rest = Task (tasks_then n rest)

abbrev pub bare_tree : ℕ → ℕ → ℕ → TreeOf
bare_tree pre tasks post =
    record { nodes = tasks_then pre (Flush (tasks_then tasks (Flush (tasks_then post (Flush Nothing))))); handlers = 0; force_handlers = false }

abbrev pub bare_inventory : List (List ℕ) → InventoryOf
bare_inventory hosts = record { hosts = hosts; groups = []; own = []; links = []; group_vars = []; host_vars = [] }

abbrev pub bare_play : List ℕ → TreeOf → List PlaceOf → List Bool → PlayOf
bare_play name tree places hosts =
    record { name = name; tree = tree; places = places; hosts = hosts; strategy = Linear; serial = []; max_fail_percentage = 100; vars = []; magic = [] }

abbrev pub bare_plan : List (List ℕ) → List PlayOf → PlanOf
bare_plan hosts plays = record { plays = plays; forks = 5; has_facts_program = false; warnings = []; inventory = bare_inventory hosts; extra = []; magic = [] }
