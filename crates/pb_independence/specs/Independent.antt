-- Plans whose hosts know nothing of each other: no expression names `hostvars`, and no task gives its facts to another host
-- (Ansible's documentation, "Special variables" and "Controlling where tasks run").
use Rattle.std.specs.Prelude.{ℕ, Bool, false, ◌&&◌, ◌||◌, not, List, Option, codes}
use Rattle.std.specs.List.{list_any, list_all}
use Rattle.std.specs.Option.{option_map_or}
use Rattle.pb_value.specs.Datum.{items_of, members_of}
use Rattle.pb_expr_syntax.specs.Tree.{trees_of}
use Rattle.pb_layers.specs.Scope.{Map}
use Rattle.pb_inventory.specs.InventoryOf.{InventoryOf}
use Rattle.pb_inventory.specs.declared.vars.GroupVars.{GroupVars}
use Rattle.pb_inventory.specs.declared.vars.Variable.{Variable}
use Rattle.pb_play.specs.declared.commands.CommandWords.{CommandWords}
use Rattle.pb_play.specs.declared.commands.CommandWords.TheVariants.{Line, Argv}
use Rattle.pb_play.specs.declared.loops.Loop.{Loop}
use Rattle.pb_play.specs.declared.modules.Module.{Module}
use Rattle.pb_play.specs.declared.modules.Module.TheVariants.{Assert, Command, Debug, DebugVar, Fail, Meta, SetFact, Setup, Shell}
use Rattle.pb_play.specs.declared.task.Task.{Task}
use Rattle.pb_places.specs.Place.{PlaceOf}
use Rattle.pb_places.specs.declared.surroundings.Role.{Role}
use Rattle.pb_hosts.specs.FromPlan.{PlayOf, PlanOf}
use Rattle.pb_reach.specs.Named.{in_tree, in_trees, in_text, in_value, in_items, in_members}
use Rattle.pb_reach.specs.Reach.{result_names}
use Rattle.pb_strategies.specs.MayStart.{is_linear}

-- ---- who names a word: in an expression, or in a template within a text
abbrev pub words_name : List ℕ → CommandWords → Bool
words_name word (Line line) = in_text word line
words_name word (Argv argv) = in_items word (items_of argv)

-- in what a module is given; `meta` and `setup` are given nothing that names a word
abbrev pub module_names : List ℕ → Module → Bool
module_names word (Assert that fail_msg success_msg) = in_trees word (trees_of that) || in_value word fail_msg || in_value word success_msg
module_names word (Command words) = words_name word words
module_names word (Debug msg) = in_value word msg
module_names word (DebugVar name expr) = in_tree word expr
module_names word (Fail msg) = in_value word msg
module_names word (Meta meta) = false
module_names word (SetFact facts) = in_members word (members_of facts)
module_names word Setup = false
module_names word (Shell cmd) = in_text word cmd

-- in what a loop goes over; a task without a loop names nothing there
abbrev pub loop_names : List ℕ → Option Loop → Bool
loop_names word looped = option_map_or (λ (l : Loop). in_value word l.over) looped false

abbrev pub map_names : List ℕ → Map → Bool
map_names word m = in_members word (members_of m)

-- in what a task runs, its loop, its conditions on results, and its own variables
abbrev pub task_names : List ℕ → Task → Bool
task_names word task = module_names word task.«module» || loop_names word task.looped || result_names word task || map_names word task.vars

abbrev pub role_names : List ℕ → Role → Bool
role_names word role = map_names word role.defaults || map_names word role.vars || map_names word role.params

-- in the name of the host that a task is delegated to, if it is
abbrev pub delegate_names : List ℕ → Option (List ℕ) → Bool
delegate_names word to = option_map_or (in_text word) to false

-- in the task at a place, its conditions, its delegate, and the variables of its blocks and its role
abbrev pub place_names : List ℕ → PlaceOf → Bool
place_names word place =
    task_names word place.task || in_trees word (trees_of place.conditions) || delegate_names word place.delegate_to || map_names word place.block_vars
    || role_names word place.role

abbrev pub play_names : List ℕ → PlayOf → Bool
play_names word play = list_any (place_names word) play.places || map_names word play.vars

abbrev pub variable_names : List ℕ → Variable → Bool
variable_names word v = in_value word v.value

abbrev pub group_names : List ℕ → List ℕ × GroupVars → Bool
group_names word entry = list_any (variable_names word) entry.1.vars

abbrev pub host_names : List ℕ → List ℕ × Map → Bool
host_names word entry = map_names word entry.1

abbrev pub inventory_names : List ℕ → InventoryOf → Bool
inventory_names word inventory = list_any (group_names word) inventory.group_vars || list_any (host_names word) inventory.host_vars

-- anywhere in a plan: in its plays, in the variables of its groups and hosts, and in the extra ones
abbrev pub plan_names : List ℕ → PlanOf → Bool
plan_names word plan = list_any (play_names word) plan.plays || inventory_names word plan.inventory || map_names word plan.extra

-- ---- and who gives facts to another host
abbrev pub play_delegates : PlayOf → Bool
play_delegates play = list_any (λ (place : PlaceOf). place.delegate_facts) play.places

-- hosts know nothing of each other: nothing in the plan names `hostvars`, and no task gives its facts to another host
abbrev pub is_independent : PlanOf → Bool
is_independent plan = not (plan_names (codes "hostvars") plan) && not (list_any play_delegates plan.plays)

-- ---- all plays go from place to place together
abbrev pub are_linear : PlanOf → Bool
are_linear plan = list_all (λ (play : PlayOf). is_linear play.strategy) plan.plays
