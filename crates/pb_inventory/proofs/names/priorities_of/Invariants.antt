use Rattle.std.proofs.Common.{◌≡◌, take}
use Rattle.pb_names.specs.Kept.{texts}
use Rattle.pb_inventory.specs.Vars.{priorities_in}
use Rattle.pb_inventory.proofs.names.priorities_of.Given as goal

abbrev pub invariant-loop-name : goal.invariant-loop-name
invariant-loop-name l = l.priorities.items ≡ priorities_in l.vars (texts (take l.name-index l.name-items))
