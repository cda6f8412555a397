-- Whether a name can be looked up while the items of a task are read, or while the task says of a result whether it changed something or failed, and
-- whether it is tried again, by what the task has and by the variables that it sees: a test that may say so of a name that is never looked up, but never
-- says of one that is looked up that it isn't.
use Rattle.std.specs.Prelude.{ℕ, ◌+◌, Bool, false, not, ◌&&◌, ◌||◌, nat_eq, List, [], ◌∷◌, Option, length}
use Rattle.std.specs.Option.{option_map_or}
use Rattle.pb_value.specs.Datum.{items_of, members_of}
use Rattle.pb_expr_syntax.specs.Tree.{Tree, trees_of}
use Rattle.pb_layers.specs.Scope.{Map, has_templates}
use Rattle.pb_play.specs.declared.commands.CommandWords.{CommandWords}
use Rattle.pb_play.specs.declared.commands.CommandWords.TheVariants.{Line, Argv}
use Rattle.pb_play.specs.declared.loops.Loop.{Loop}
use Rattle.pb_play.specs.declared.modules.Module.{Module}
use Rattle.pb_play.specs.declared.modules.Module.TheVariants.{Assert, Command, Debug, DebugVar, Fail, Meta, SetFact, Setup, Shell}
use Rattle.pb_play.specs.declared.task.Task.{Task}
use Rattle.pb_items.specs.Items.{StartOf}
use Rattle.pb_reach.specs.Named.{in_tree, in_trees}
use Rattle.pb_mentions.specs.Mentions.{has_inside, mentions, items_mention, members_mention}
use Rattle.pb_reach.specs.Reached.{some_name_in, layers_lead}
use Rattle.pb_reach.specs.ResultConditions.{until_of}

-- whether the word stands somewhere in a command
abbrev pub words_mention : List ℕ → CommandWords → Bool
words_mention word (Line line) = has_inside word line
words_mention word (Argv argv) = items_mention word (items_of argv)

-- in what a module is given: somewhere in its texts, or as a name in its expressions
abbrev pub module_mentions : List ℕ → Module → Bool
module_mentions word (Assert that fail_msg success_msg) = in_trees word (trees_of that) || mentions word fail_msg || mentions word success_msg
module_mentions word (Command words) = words_mention word words
module_mentions word (Debug msg) = mentions word msg
module_mentions word (DebugVar name expr) = in_tree word expr
module_mentions word (Fail msg) = mentions word msg
module_mentions word (Meta meta) = false
module_mentions word (SetFact facts) = members_mention word (members_of facts)
module_mentions word Setup = false
module_mentions word (Shell cmd) = has_inside word cmd

-- in what a task is repeated over; a task without a loop mentions nothing there
abbrev pub loop_mentions : List ℕ → Option Loop → Bool
loop_mentions word looped = option_map_or (λ (l : Loop). mentions word l.over) looped false

-- as a name in one of these conditions; where there are none it is named nowhere
abbrev pub conditions_name : List ℕ → Option (List Tree) → Bool
conditions_name word conditions = option_map_or (λ (cs : List Tree). in_trees word (trees_of cs)) conditions false

-- the conditions by which a task says of a result whether it changed something, whether it failed, and whether the task is tried again
abbrev pub result_names : List ℕ → Task → Bool
result_names word task = conditions_name word task.changed_when || conditions_name word task.failed_when || conditions_name word (until_of task.retrying)

-- a task itself; its variables are a layer, and its conditions are among those of its place
abbrev pub task_mentions : List ℕ → Task → Bool
task_mentions word task = module_mentions word task.module || loop_mentions word task.looped || result_names word task

-- in the template of the name that a task is delegated to, if there is one
abbrev pub delegate_mentions : List ℕ → Option (List ℕ) → Bool
delegate_mentions word to = option_map_or (has_inside word) to false

-- the maps whose texts are templates
abbrev pub maps_mention : List ℕ → List Map → Bool
maps_mention word [] = false
maps_mention word (m ∷ below) = (has_templates (length below + 1) && members_mention word (members_of m)) || maps_mention word below

-- the eleven layers of a task
abbrev pub layers_mention : List ℕ → List Map → Bool
layers_mention word layers = not (nat_eq (length layers) 11) || maps_mention word layers

-- what a task has of texts and expressions beside its variables
abbrev pub own_texts_mention : List ℕ → Task → List Tree → Option (List ℕ) → Bool
own_texts_mention word task conditions delegate_to = (task_mentions word task || in_trees word (trees_of conditions)) || delegate_mentions word delegate_to

-- whether the name may be looked up as a task's items are read: with these conditions of its place, this delegate and these layers
abbrev pub may_read : List ℕ → Task → List Tree → Option (List ℕ) → List Map → Bool
may_read word task conditions delegate_to layers =
    (task_mentions word task || in_trees word (trees_of conditions)) || (delegate_mentions word delegate_to || layers_mention word layers)

-- whether they reach a template among the variables
abbrev pub conditions_reach : List Map → Option (List Tree) → Bool
conditions_reach layers conditions = option_map_or (λ (cs : List Tree). some_name_in (layers_lead layers) (trees_of cs)) conditions false

-- so with the conditions by which a task speaks of a result
abbrev pub result_reaches : List Map → Task → Bool
result_reaches layers task = conditions_reach layers task.changed_when || conditions_reach layers task.failed_when || conditions_reach layers (until_of task.retrying)

-- Of a result neither the module nor the loop is read, nor the variables where these conditions reach no template among them: so nothing at all where
-- the task has none of the conditions.
abbrev pub may_read_of_result : List ℕ → Task → List Map → Bool
may_read_of_result word task layers = result_names word task || (result_reaches layers task && layers_mention word layers)

-- one of some maps
abbrev pub each_mentions : List ℕ → List Map → Bool
each_mentions word [] = false
each_mentions word (m ∷ ms) = members_mention word (members_of m) || each_mentions word ms

-- what the items are read from, with these magic variables, and the same with others
abbrev pub start_from : Task → List Tree → Option (List ℕ) → Bool → List Map → Map → StartOf
start_from task conditions delegate_to program layers magic =
    record {
      task = task;
      conditions = conditions;
      delegate_to = delegate_to;
      has_facts_program = program;
      layers = layers;
      magic = magic;
    }

abbrev pub with_magic : StartOf → Map → StartOf
with_magic start magic = record start { magic = magic }

-- whether the name may be looked up as the items are read from this
abbrev pub start_reads : List ℕ → StartOf → Bool
start_reads word start = may_read word start.task start.conditions start.delegate_to start.layers
