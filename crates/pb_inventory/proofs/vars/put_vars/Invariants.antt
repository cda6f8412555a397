use Rattle.std.proofs.Common.{◌≡◌, take}
use Rattle.pb_inventory.specs.Vars.{put_vars}
use Rattle.pb_inventory.proofs.vars.put_vars.Given as goal

abbrev pub invariant-loop-variable : goal.invariant-loop-variable
invariant-loop-variable l = l.known ≡ put_vars (take l.variable-index l.vars) l.fn.known
