-- What a host has of its own beside what it learns, and what stands for a role and for variables where there are none.
use Rattle.std.specs.Prelude.{ℕ, []}
use Rattle.pb_value.specs.Datum.{text}
use Rattle.pb_inventory.specs.Vars.{host_name}
use Rattle.pb_variables.specs.Shared.{from_groups}
use Rattle.pb_places.specs.Place.{no_role}
use Rattle.pb_plan.specs.Plan.{PlanOf}
use Rattle.pb_task_vars.specs.declared.host_vars.HostVars.{HostVars}

-- the variables that the host with this number has from its groups, and its name
abbrev pub host_vars_of : PlanOf → ℕ → HostVars
host_vars_of plan host =
    record { groups = from_groups plan.inventory host; name = text (host_name plan.inventory host); no_role = no_role; none = [] }
