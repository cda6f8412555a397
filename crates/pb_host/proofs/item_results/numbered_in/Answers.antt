use Rattle.std.proofs.Common.{◌<◌, length, arith}
use Rattle.pb_host.proofs.Numbering.{numbered_more}
use Rattle.pb_host.proofs.item_results.numbered_in.Goals as goal

pub loop-number-preserved : goal.loop-number-preserved
loop-number-preserved c =
    let inside : c.loop-number.number < length c.args.items.now = omega arith in
    numbered_more c.args.items.now c.loop-number.results c.push_item_result.new.results c.loop-number.number c.index-items-number.result inside c.index-items-number.is c.loop-number.invariant c.in_ok-push_item_result.ensures
