use Rattle.std.proofs.Common.{length, refl, arith}
use Rattle.std.proofs.lemmas.Grind.{common_steps}
use Rattle.std.proofs.lemmas.Option.{slice_get_read}
use Rattle.pb_plan.proofs.Marks.{none_placed, placed_more}
use Rattle.pb_plan.proofs.hostvars.mark_places.Goals as goal

pub loop-place-init : goal.loop-place-init
loop-place-init c = record { count = grind (arith, common_steps); free = none_placed c.args.vars.now c.args.places.now _ c.in_ok-marked.ensures.items }

pub loop-place-preserved : goal.loop-place-preserved
loop-place-preserved c = record {
  count = grind (arith, common_steps);
  free =
      placed_more c.args.vars.now c.args.places.now c.place-item.result c.loop-place.marked.items c.push.new.self.items c.is_free_of_hostvars-is.result c.loop-place.place-index c.loop-place.invariant.count c.requires
      (slice_get_read c.args.places.now (length c.args.places.now) c.loop-place.place-index c.place-item.result refl c.loop-place-test.true c.place-item.is)
      c.loop-place.invariant.free c.is_free_of_hostvars-is.ensures c.in_ok-push.ensures.items;
}
