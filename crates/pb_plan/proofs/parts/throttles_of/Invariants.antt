use Rattle.std.proofs.Common.{◌≡◌, take}
use Rattle.pb_plan.specs.Plan.{throttles_of}
use Rattle.pb_plan.proofs.parts.throttles_of.Given as goal

abbrev pub invariant-loop-place : goal.invariant-loop-place
invariant-loop-place l = l.all.items ≡ throttles_of (take l.place-index l.places)
