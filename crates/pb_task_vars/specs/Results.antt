-- What tasks are when they start on a host, and what they say of their items that come back.
use Rattle.std.specs.Prelude.{⊤, ℕ, Bool, nat_lt, List, [], ◌∷◌, ◌++◌, length, Option, None, slice_get, if◌then◌else◌}
use Rattle.std.specs.Option.{option_map_or}
use Rattle.pb_value.specs.Datum.{Datum, null}
use Rattle.pb_facts.specs.Facts.{FactsOf, gathered_layer}
use Rattle.pb_inventory.specs.Vars.{vars_from_groups, vars_of_host}
use Rattle.pb_layers.specs.Scope.{Map, layers}
use Rattle.pb_variables.specs.Magic.{host_magic}
use Rattle.pb_items.specs.FromConditions.{Back, Ends}
use Rattle.pb_items.specs.Items.{StartOf, item_in, items_of, attempted_item}
use Rattle.pb_items.specs.Loops.{values_of}
use Rattle.pb_items.specs.Planning.{on_plain_texts}
use Rattle.pb_outcome.specs.declared.gather.Ending.TheVariants.{Skipped}
use Rattle.pb_outcome.specs.declared.gather.ItemResult.{ItemResult}
use Rattle.pb_outcome.specs.declared.item.Item.{Item}
use Rattle.pb_outcome.specs.declared.item.Planned.TheVariants.{Decided}
use Rattle.pb_places.specs.Place.{PlaceOf}
use Rattle.pb_places.specs.declared.surroundings.Role.{Role}
use Rattle.pb_play.specs.declared.loops.Loop.{Loop}
use Rattle.pb_play.specs.declared.task.Task.{Task}
use Rattle.pb_plan.specs.Plan.{PlayOf, PlanOf}
use Rattle.pb_task_vars.specs.Gifts.{given_by}
use Rattle.pb_task_vars.specs.Learning.{facts_after_end}

-- The variables that a task of a play sees on a host, with those of its role, of its blocks and its own: beside these those of the host's groups, of the
-- host itself, of the play and the extra ones, and what the host has learnt, in the order of the layers
-- (Ansible's documentation, "Using variables", variable precedence)
abbrev pub layers_within : PlanOf → PlayOf → ℕ → FactsOf → Role → Map → Map → List Map
layers_within plan play host facts role block_vars task_vars =
    layers
    role.defaults
    (vars_from_groups plan.inventory host)
    (vars_of_host plan.inventory host)
    (gathered_layer facts.gathered)
    play.vars
    role.vars
    block_vars
    task_vars
    facts.set
    role.params
    plan.extra

-- over these the magic ones
abbrev pub magic_of : PlanOf → PlayOf → ℕ → Map
magic_of plan play host = host_magic plan.inventory host ++ play.magic ++ plan.magic

-- what the items of the task at a place are read from, with these layers and magic variables, in a run with a facts program or without
unfoldable pub start_with : (has_facts_program : Bool) → PlaceOf → List Map → Map → StartOf
start_with has_facts_program place layers magic =
    record {
      task = place.task;
      conditions = place.conditions;
      delegate_to = place.delegate_to;
      has_facts_program = has_facts_program;
      layers = layers;
      magic = magic;
    }

-- the same on the host with this number, which has learnt this, with the variables that the task sees there
abbrev pub start_of : PlanOf → PlayOf → ℕ → FactsOf → PlaceOf → StartOf
start_of plan play host facts place =
    start_with plan.has_facts_program place (layers_within plan play host facts place.role place.block_vars place.task.vars) (magic_of plan play host)

-- a place without a task has nothing to run, nor has a number that is no host's; no tree has such a place, and no run such a host
abbrev pub nothing : ItemResult
nothing = record { ending = Skipped; result = null }

-- what stands at a place for a host, whose number comes first; none where one of the two is past the end
abbrev pub place_for : PlanOf → PlayOf → ℕ → ℕ → Option PlaceOf
place_for plan play host p = if nat_lt host (length plan.inventory.hosts) then slice_get play.places p else None

-- the items of the task at this place as it starts on the host with this number, which has learnt this
abbrev pub items_for : PlanOf → PlayOf → ℕ → FactsOf → PlaceOf → List Item
items_for plan play host facts place = items_of (start_of plan play host facts place)

-- the items of the task at a place as it starts on a host that has learnt this
unfoldable pub items_at : PlanOf → PlayOf → ℕ → FactsOf → ℕ → List Item
items_at plan play host facts p =
    option_map_or (items_for plan play host facts) (place_for plan play host p) (record { value = None; delegate = None; tried = 0; step = Decided nothing } ∷ [])

-- what an attempt, numbered from 1, at an item with this value of the loop variable comes to: as its task says in the scope that the host has then
abbrev pub came_for : PlanOf → PlayOf → ℕ → FactsOf → Option Datum → ℕ → ItemResult → PlaceOf → Back
came_for plan play host facts value attempt item place = attempted_item (start_of plan play host facts place) value attempt item

unfoldable pub came_at : PlanOf → PlayOf → ℕ → FactsOf → ℕ → Option Datum → ℕ → ItemResult → Back
came_at plan play host facts p value attempt item = option_map_or (came_for plan play host facts value attempt item) (place_for plan play host p) (Ends item)

-- the name of its loop variable, where it has a loop
abbrev pub variable_of : Task → List ℕ
variable_of task = option_map_or (λ (looped : Loop). looped.variable) task.looped []

-- the same of the task at a place; it is empty where the task has no loop, or there is no such place
abbrev pub variable_at : PlayOf → ℕ → List ℕ
variable_at play p = option_map_or (λ (place : PlaceOf). variable_of place.task) (slice_get play.places p) []

-- what computes a worked run, where no expression stands in its texts
unfoldable pub on_tasks : ⊤
unfolding items_at came_at start_with facts_after_end given_by items_of item_in values_of on_plain_texts
on_tasks = tt
