-- What items are read from, from its parts.
use Rattle.std.proofs.Common.{◌≡◌, ◌∙◌, ℕ, Bool, List, [], ◌++◌, refl, ap}
use Rattle.pb_facts.specs.Facts.{FactsOf, gathered_layer}
use Rattle.pb_layers.specs.Scope.{Map, layers}
use Rattle.pb_inventory.specs.InventoryOf.{InventoryOf}
use Rattle.pb_inventory.specs.Vars.{vars_from_groups, vars_of_host}
use Rattle.pb_variables.specs.Magic.{magic_with, host_magic}
use Rattle.pb_places.specs.Place.{PlaceOf, no_role}
use Rattle.pb_places.specs.declared.surroundings.Role.{Role}
use Rattle.pb_play.specs.declared.task.Task.{Task}
use Rattle.pb_plan.specs.Plan.{PlayOf, PlanOf}
use Rattle.pb_task_vars.specs.declared.host_vars.HostVars.{HostVars}
use Rattle.pb_task_vars.specs.HostVars.{host_vars_of}
use Rattle.pb_task_vars.specs.Results.{layers_within, magic_of, start_with, start_of}

-- the layers, each of which is known
same : (plan : PlanOf) (play : PlayOf) (h : ℕ) (facts : FactsOf) (role : Role) (blocks tasks : Map) (inventory : InventoryOf) (groups hosts gathered plays set extra : Map)
    → inventory ≡ plan.inventory → groups ≡ vars_from_groups plan.inventory h → hosts ≡ vars_of_host inventory h → gathered ≡ gathered_layer facts.gathered → plays ≡ play.vars
    → set ≡ facts.set → extra ≡ plan.extra
    → layers role.defaults groups hosts gathered plays role.vars blocks tasks set role.params extra ≡ layers_within plan play h facts role blocks tasks
same plan play h facts role blocks tasks inventory groups hosts gathered plays set extra i g v f p s x = cc

-- where something stands for the role and the variables that a place lacks
pub layered : (plan : PlanOf) (play : PlayOf) (h : ℕ) (facts : FactsOf) (place : PlaceOf) (own : HostVars) (inventory : InventoryOf) (role : Role) (task : Task) (blocks groups hosts gathered plays set extra : Map)
    → own ≡ host_vars_of plan h → groups ≡ own.groups.variables → inventory ≡ plan.inventory → (own.no_role ≡ no_role → role ≡ place.role) → (own.none ≡ [] → blocks ≡ place.block_vars) → task ≡ place.task
    → hosts ≡ vars_of_host inventory h → gathered ≡ gathered_layer facts.gathered → plays ≡ play.vars → set ≡ facts.set → extra ≡ plan.extra
    → layers role.defaults groups hosts gathered plays role.vars blocks task.vars set role.params extra
    ≡ layers_within plan play h facts place.role place.block_vars place.task.vars
layered plan play h facts place own inventory role task blocks groups hosts gathered plays set extra o g i r b t v f p s x =
    rw (r (ap (λ (w : HostVars). w.no_role) o), b (ap (λ (w : HostVars). w.none) o), t)
    (same plan play h facts place.role place.block_vars place.task.vars inventory groups hosts gathered plays set extra i (g ∙ ap (λ (w : HostVars). w.groups.variables) o) v f p s x)

-- the magic variables, those of the host in front
magic_is : (plan : PlanOf) (play : PlayOf) (h : ℕ) (own : HostVars) (plays plans : Map) → own ≡ host_vars_of plan h → plays ≡ play.magic → plans ≡ plan.magic →
    magic_with own.groups.names own.name ++ plays ++ plans ≡ magic_of plan play h
unfolding host_magic
magic_is plan play h own plays plans o p q = rw (p, q) (ap (λ (w : HostVars). magic_with w.groups.names w.name ++ play.magic ++ plan.magic) o)

-- and all of it
pub sighted : (plan : PlanOf) (play : PlayOf) (h : ℕ) (facts : FactsOf) (place : PlaceOf) (own : HostVars) (program : Bool) (seen : List Map) (hosts plays magic : Map)
    → own ≡ host_vars_of plan h → program ≡ plan.has_facts_program → seen ≡ layers_within plan play h facts place.role place.block_vars place.task.vars → hosts ≡ magic_with own.groups.names own.name
    → plays ≡ play.magic → magic ≡ hosts ++ plays ++ plan.magic
    → start_with program place seen magic ≡ start_of plan play h facts place
sighted plan play h facts place own program seen hosts plays magic o f l w p m =
    ap (λ (v : Bool). start_with v place seen magic) f
    ∙ ap (λ (v : List Map). start_with plan.has_facts_program place v magic) l
    ∙ ap (λ (v : Map). start_with plan.has_facts_program place (layers_within plan play h facts place.role place.block_vars place.task.vars) v) (m ∙ ap (λ (v : Map). v ++ plays ++ plan.magic) w ∙ magic_is plan play h own plays plan.magic o p refl)
