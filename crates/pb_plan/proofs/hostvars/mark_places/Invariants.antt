use Rattle.std.proofs.Common.{◌≡◌, length}
use Rattle.pb_plan.specs.Hostvars.{AreFreePlaces}
use Rattle.pb_plan.proofs.hostvars.mark_places.Given as goal

abbrev pub invariant-loop-place : goal.invariant-loop-place
invariant-loop-place l = record {
  count : length l.marked.items ≡ l.place-index;
  free : AreFreePlaces l.vars l.places l.marked.items;
}
