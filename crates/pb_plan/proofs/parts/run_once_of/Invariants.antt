use Rattle.std.proofs.Common.{◌≡◌, take}
use Rattle.pb_plan.specs.Plan.{run_once_of}
use Rattle.pb_plan.proofs.parts.run_once_of.Given as goal

abbrev pub invariant-loop-place : goal.invariant-loop-place
invariant-loop-place l = l.all.items ≡ run_once_of (take l.place-index l.places)
