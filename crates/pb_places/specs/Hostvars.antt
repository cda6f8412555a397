-- Roles and places in whose variables `hostvars` doesn't stand (`pb_mentions`).
use Rattle.pb_mentions.specs.Hostvars.{IsFree}
use Rattle.pb_places.specs.Place.{PlaceOf}
use Rattle.pb_places.specs.declared.surroundings.Role.{Role}

-- `hostvars` stands in none of the variables of the role
pub record IsFreeRole (role : Role) : Type 0 where
  pub defaults : IsFree role.defaults
  pub vars : IsFree role.vars
  pub params : IsFree role.params

-- in none that a task has at its place: its own, those of its role, and those of the blocks round it
pub record IsFreePlace (place : PlaceOf) : Type 0 where
  pub role : IsFreeRole place.role
  pub blocks : IsFree place.block_vars
  pub own : IsFree place.task.vars
