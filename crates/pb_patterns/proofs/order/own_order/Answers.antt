use Rattle.std.proofs.Common.{refl, ap, ◌∙◌, arith}
use Rattle.pb_patterns.proofs.Orders.{own_more, own_passes}
use Rattle.pb_patterns.proofs.order.own_order.Goals as goal
use Rattle.pb_patterns.proofs.order.own_order.Goals.{then-entry-group+in_ok-put_new, else-entry-group}

pub loop-entry-preserved : goal.loop-entry-preserved
loop-entry-preserved c = elim c.if-entry-group.branch [
  | then-entry-group+in_ok-put_new w ↦
      own_more c.args.own.now c.loop-entry.entry-index _ c.args.group.0 _ c.loop-entry.order.items c.if-entry-group.order.items c.args.seen.now c.loop-entry.seen c.if-entry-group.seen refl
      c.loop-entry-test.true w.if-entry-group.true refl
      (omega (arith, c.requires.within c.loop-entry.entry-index c.loop-entry-test.true w.if-entry-group.true, c.loop-entry.invariant.1))
      (ap (λ v. v.items) w.order-is ∙ w.in_ok-put_new.ensures.order) (w.seen-is ∙ w.in_ok-put_new.ensures.seen) c.loop-entry.invariant
  | else-entry-group w ↦
      own_passes c.args.own.now c.loop-entry.entry-index _ c.args.group.0 c.loop-entry.order.items c.if-entry-group.order.items c.args.seen.now c.loop-entry.seen c.if-entry-group.seen refl
      c.loop-entry-test.true w.if-entry-group.false (ap (λ v. v.items) w.order-is) w.seen-is c.loop-entry.invariant
]
