-- The tree of a play and what stands at its places, from the tasks, the blocks and the places for handlers that are written in it and in its roles
-- (Ansible's documentation, "Playbook keywords", "Blocks", "Roles" and "Handlers: running operations on change").
use Rattle.std.specs.Prelude.{ℕ, ◌+◌, Bool, true, false, ◌||◌, not, List, [], ◌∷◌, ◌++◌, map, length, Option, Some, None, unwrap_or}
use Rattle.pb_expr_syntax.specs.Tree.{Tree}
use Rattle.pb_layers.specs.Scope.{Map, or_else}
use Rattle.pb_facts.specs.Facts.{put_all}
use Rattle.pb_play.specs.Couplings.{uncoupled}
use Rattle.pb_play.specs.Nodes.{Written, Nothing, Task, Block, Flush}
use Rattle.pb_play.specs.declared.couplings.Couplings.{Couplings}
use Rattle.pb_play.specs.declared.node.BlockKeys.{BlockKeys}
use Rattle.pb_play.specs.declared.task.Task.{Task as OneTask}
use Rattle.pb_tree.specs.Tree as tree
use Rattle.pb_tree.specs.Tree.{Nodes, TreeOf}
use Rattle.pb_places.specs.Place.{PlaceOf, delegate_for}
use Rattle.pb_places.specs.declared.surroundings.Role.{Role}
use Rattle.pb_handlers.specs.Naming.{notified_from}
use Rattle.pb_handlers.specs.declared.naming.HandlerNames.{HandlerNames}
use Rattle.pb_roles.specs.Origins.{OriginOf}
use Rattle.pb_roles.specs.Sections.{names_of}
use Rattle.pb_roles.specs.declared.collected.HandlerIn.{HandlerIn}
use Rattle.pb_roles.specs.declared.collected.Section.{Section}
use Rattle.pb_roles.specs.declared.sections.PlayKeys.{PlayKeys}
use Rattle.pb_roles.specs.declared.sections.Sections.{Sections}

-- the keys of a task, a block or a play that are handed down to what stands in it, where they are written
pub record KeysOf : Type 0 where
  pub conditions : List Tree
  pub ignore_errors : Option Bool
  pub throttle : Option ℕ
  pub couplings : Couplings

abbrev pub keys_of_task : OneTask → KeysOf
keys_of_task task = record { conditions = task.conditions; ignore_errors = task.ignore_errors; throttle = task.throttle; couplings = task.couplings }

abbrev pub keys_of_block : BlockKeys → KeysOf
keys_of_block block = record { conditions = block.conditions; ignore_errors = block.ignore_errors; throttle = block.throttle; couplings = block.couplings }

-- of each the inner one counts, where it is written
abbrev pub inner_couplings : Couplings → Couplings → Couplings
inner_couplings outer own =
    record {
      any_errors_fatal = or_else own.any_errors_fatal outer.any_errors_fatal;
      delegate_facts = or_else own.delegate_facts outer.delegate_facts;
      delegate_to = or_else own.delegate_to outer.delegate_to;
      run_once = or_else own.run_once outer.run_once;
    }

-- conditions stand from the outer to the inner ones; of the other keys the inner one counts, where it is written
abbrev pub inner : KeysOf → KeysOf → KeysOf
inner outer own =
    record {
      conditions = outer.conditions ++ own.conditions;
      ignore_errors = or_else own.ignore_errors outer.ignore_errors;
      throttle = or_else own.throttle outer.throttle;
      couplings = inner_couplings outer.couplings own.couplings;
    }

-- what stands round a node: the keys that its role, its blocks and its play hand down, the variables of the blocks, the inner over the outer, and those of the role
pub record InheritedOf : Type 0 where
  pub keys : KeysOf
  pub block_vars : Map
  pub role : Role

-- what stands round all that comes from there: a role has conditions, and the play says which failures are ignored and which end it for all hosts, but nothing
-- of how many hosts may run a task at once, nor of who runs it
abbrev pub inherited_of : PlayKeys → OriginOf → InheritedOf
inherited_of play origin =
    record {
      keys = record {
        conditions = origin.conditions;
        ignore_errors = Some play.ignore_errors;
        throttle = None;
        couplings = record uncoupled { any_errors_fatal = play.any_errors_fatal };
      };
      block_vars = [];
      role = origin.role;
    }

-- what stands round the nodes of a block
abbrev pub inside : InheritedOf → BlockKeys → InheritedOf
inside inherited block = record { keys = inner inherited.keys (keys_of_block block); block_vars = put_all block.vars inherited.block_vars; role = inherited.role }

-- what stands at a task's place: the task, with what is handed down to it, and the numbers of the handlers that it notifies; in a Flush its own number
abbrev pub placed_with : List HandlerNames → KeysOf → InheritedOf → Bool → Option ℕ → OneTask → PlaceOf
placed_with names keys inherited is_caught handler task =
    record {
      task = task;
      conditions = keys.conditions;
      block_vars = inherited.block_vars;
      role = inherited.role;
      ignore_errors = unwrap_or keys.ignore_errors false;
      any_errors_fatal = unwrap_or keys.couplings.any_errors_fatal false;
      throttle = unwrap_or keys.throttle 0;
      run_once = unwrap_or keys.couplings.run_once false;
      delegate_to = delegate_for task.«module» keys.couplings.delegate_to;
      delegate_facts = unwrap_or keys.couplings.delegate_facts false;
      is_caught = is_caught;
      notifies = notified_from task.notify 0 names;
      handler = handler;
    }

-- what stands at the place of a task inside this: its own keys are the inner ones
abbrev pub placed : List HandlerNames → InheritedOf → Bool → Option ℕ → OneTask → PlaceOf
placed names inherited is_caught handler task = placed_with names (inner inherited.keys (keys_of_task task)) inherited is_caught handler task

-- a task with what stands round it
pub record TaskIn : Type 0 where
  pub task : OneTask
  pub inherited : InheritedOf

-- a handler has its own role round it, or the play: never what stands round the Flush in which it runs
abbrev pub task_of : PlayKeys → HandlerIn → TaskIn
task_of keys handler = record { task = handler.handler.task; inherited = inherited_of keys handler.origin }

-- what stands at the places of a Flush: each handler, from the one with number n on
abbrev pub flush_from : List HandlerNames → Bool → ℕ → List TaskIn → List PlaceOf
flush_from names is_caught n [] = []
flush_from names is_caught n (handler ∷ handlers) = placed names handler.inherited is_caught (Some n) handler.task ∷ flush_from names is_caught (n + 1) handlers

-- what is known of a play's handlers: what they are notified by, and what stands round each
pub record Flushed : Type 0 where
  pub names : List HandlerNames
  pub handlers : List TaskIn

-- all handlers of the play, in order, in a Flush in which failures are caught or not
abbrev pub flush_places : Flushed → Bool → List PlaceOf
flush_places flushed is_caught = flush_from flushed.names is_caught 0 flushed.handlers

abbrev pub is_nothing : Written → Bool
is_nothing Nothing = true
is_nothing (Task task rest) = false
is_nothing (Block block body rescue always rest) = false
is_nothing (Flush rest) = false

-- what stands at the places of these nodes; a failure in the body of a block that has a rescue is caught
abbrev pub places_of : Flushed → InheritedOf → Bool → Written → List PlaceOf
places_of flushed inherited is_caught Nothing = []
places_of flushed inherited is_caught (Task task rest) = placed flushed.names inherited is_caught None task ∷ places_of flushed inherited is_caught rest
places_of flushed inherited is_caught (Block block body rescue always rest) =
    places_of flushed (inside inherited block) (is_caught || not (is_nothing rescue)) body ++ places_of flushed (inside inherited block) is_caught rescue
    ++ places_of flushed (inside inherited block) is_caught always ++ places_of flushed inherited is_caught rest
places_of flushed inherited is_caught (Flush rest) = flush_places flushed is_caught ++ places_of flushed inherited is_caught rest

-- these nodes in a tree, in front of others
abbrev pub nodes_then : Written → Nodes → Nodes
nodes_then Nothing rest = rest
nodes_then (Task task more) rest = tree.Task (nodes_then more rest)
nodes_then (Block block body rescue always more) rest =
    tree.Block (nodes_then body tree.Nothing) (nodes_then rescue tree.Nothing) (nodes_then always tree.Nothing) (nodes_then more rest)
nodes_then (Flush more) rest = tree.Flush (nodes_then more rest)

-- the same of the nodes of sections, one behind another
abbrev pub sections_then : List Section → Nodes → Nodes
sections_then [] rest = rest
sections_then (section ∷ sections) rest = nodes_then section.nodes (sections_then sections rest)

-- what stands at the places of sections, in their order; nothing round a section catches a failure
abbrev pub section_places : Flushed → PlayKeys → List Section → List PlaceOf
section_places flushed keys [] = []
section_places flushed keys (section ∷ sections) =
    places_of flushed (inherited_of keys section.origin) false section.nodes ++ section_places flushed keys sections

-- a play has three lists of nodes, and behind each its handlers run
abbrev pub nodes_of : Sections → Nodes
nodes_of play = sections_then play.pre (tree.Flush (sections_then play.tasks (tree.Flush (sections_then play.post (tree.Flush tree.Nothing)))))

-- the tree of a play: its nodes, how many handlers run in each Flush, and whether these run after a failure, too
abbrev pub tree_of : Sections → TreeOf
tree_of play = record { nodes = nodes_of play; handlers = length play.handlers; force_handlers = play.force_handlers }

abbrev pub flushed_in : Sections → Flushed
flushed_in play = record { names = map names_of play.handlers; handlers = map (task_of play.keys) play.handlers }

-- what stands at the places of some sections and of the Flush behind them
abbrev pub part_places : Flushed → PlayKeys → List Section → List PlaceOf
part_places flushed keys sections = section_places flushed keys sections ++ flush_places flushed false

-- what stands at all places of a play, in the order of its tree
abbrev pub all_places : Sections → List PlaceOf
all_places play =
    part_places (flushed_in play) play.keys play.pre ++ part_places (flushed_in play) play.keys play.tasks
    ++ part_places (flushed_in play) play.keys play.post
