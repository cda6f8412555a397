-- A plan as tasks see it: `hostvars`, which tells of what hosts have learnt, stands behind the other magic variables
-- (Ansible's documentation, "Special variables").
use Rattle.std.specs.Prelude.{List, ◌++◌}
use Rattle.pb_facts.specs.Facts.{FactsOf}
use Rattle.pb_layers.specs.Scope.{Map}
use Rattle.pb_variables.specs.Magic.{hostvars, hosts_magic}
use Rattle.pb_plan.specs.Plan.{PlanOf}

-- a plan with these magic variables behind its own
abbrev pub with_hosts : PlanOf → Map → PlanOf
with_hosts plan hosts = record plan { magic = plan.magic ++ hosts }

-- a plan whose hosts, by their numbers, have learnt this
abbrev pub seen_with : PlanOf → List FactsOf → PlanOf
seen_with plan learnt = with_hosts plan (hosts_magic (hostvars plan.inventory plan.extra learnt))
