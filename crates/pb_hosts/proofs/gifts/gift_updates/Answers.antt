use Rattle.pb_hosts.proofs.Preparing.{gifts_end, gifts_first, gifts_more}
use Rattle.pb_hosts.proofs.gifts.gift_updates.Goals as goal

pub loop-gift-init : goal.loop-gift-init
loop-gift-init c = gifts_first c.args.gifts.now c.new-all.result.items c.new-all.ensures.items

pub take_in-requires : goal.take_in-requires
take_in-requires c = c.loop-gift.invariant.0

pub loop-gift-preserved : goal.loop-gift-preserved
loop-gift-preserved c =
    gifts_more c.args.gifts.now c.loop-gift.gift-index c.gift-item.result c.loop-gift.all.items c.take_in.new.all.items c.loop-gift-test.true c.gift-item.is c.in_ok-take_in.ensures c.loop-gift.invariant.1

pub returns : goal.returns
returns c = gifts_end c.args.gifts.now c.loop-gift.gift-index c.loop-gift.all.items c.loop-gift-test.false c.loop-gift.invariant.1
