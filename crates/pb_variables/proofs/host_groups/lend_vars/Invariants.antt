use Rattle.std.proofs.Common.{◌≡◌, drop}
use Rattle.pb_inventory.specs.Vars.{put_vars}
use Rattle.pb_variables.proofs.host_groups.lend_vars.Given as goal

abbrev pub invariant-loop-variable : goal.invariant-loop-variable
invariant-loop-variable l = put_vars (drop l.variable-index l.vars) l.lending ≡ put_vars l.vars l.fn.lending
