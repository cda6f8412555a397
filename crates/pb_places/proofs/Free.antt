-- Roles and places in whose variables `hostvars` doesn't stand, by their parts.
use Rattle.std.proofs.Common.{◌≡◌, [], Option, Some, None, refl, sym, subst}
use Rattle.std.specs.Prelude.{Box}
use Rattle.std.specs.Global.{Global}
use Rattle.pb_layers.specs.Scope.{Map}
use Rattle.pb_mentions.specs.Hostvars.{IsFree}
use Rattle.pb_play.specs.declared.task.Task.{Task}
use Rattle.pb_places.specs.Hostvars.{IsFreeRole, IsFreePlace}
use Rattle.pb_places.specs.Place.{PlaceOf, no_role}
use Rattle.pb_places.specs.Within.{placed_in}
use Rattle.pb_places.specs.declared.surroundings.Role.{Role}
use Rattle.pb_places.specs.declared.surroundings.Surroundings.{Surroundings}

pub free_role : (role : Role) → IsFree role.defaults → IsFree role.vars → IsFree role.params → IsFreeRole role
free_role role d v p = record { defaults = d; vars = v; params = p }

pub free_same : (role other : Role) → other ≡ role → IsFreeRole role → IsFreeRole other
free_same role other same free = subst IsFreeRole (sym same) free

-- no role has no variables
pub free_none : (role : Role) → role ≡ no_role → IsFreeRole role
free_none role none = subst IsFreeRole (sym none) (record { defaults = refl; vars = refl; params = refl })

pub free_empty : (vars : Map) → vars ≡ [] → IsFree vars
free_empty vars none = subst IsFree (sym none) refl

-- a task's own variables are those of its place, whatever stands round it
own_in : (task : Task) (given : Option (Box Surroundings Global)) → IsFree task.vars → IsFree (placed_in task given).task.vars
own_in task None free = free
own_in task (Some given) free = free

pub free_own : (place : PlaceOf) (task : Task) (given : Option (Box Surroundings Global)) → place ≡ placed_in task given → IsFree task.vars → IsFree place.task.vars
free_own place task given is free = subst (λ (p : PlaceOf). IsFree p.task.vars) (sym is) (own_in task given free)

pub free_place : (place : PlaceOf) → IsFreeRole place.role → IsFree place.block_vars → IsFree place.task.vars → IsFreePlace place
free_place place role blocks own = record { role = role; blocks = blocks; own = own }
