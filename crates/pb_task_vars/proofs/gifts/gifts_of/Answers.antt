use Rattle.std.proofs.Common.{◌<◌, length, arith}
use Rattle.pb_task_vars.proofs.ForOthers.{gifts_more}
use Rattle.pb_task_vars.proofs.gifts.gifts_of.Goals as goal

pub loop-number-preserved : goal.loop-number-preserved
loop-number-preserved c =
    let inside : c.loop-number.number < length c.args.items.now = omega arith in
    gifts_more c.args.inventory.now c.args.host.0 c.args.gives c.args.items.now c.loop-number.gifts.items c.push_gift.new.gifts.items c.loop-number.number c.index-items-number.result inside c.index-items-number.is c.loop-number.invariant c.in_ok-push_gift.ensures
