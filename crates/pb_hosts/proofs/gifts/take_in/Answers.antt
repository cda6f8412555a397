use Rattle.pb_hosts.proofs.Preparing.{taken_first, taken_more}
use Rattle.pb_hosts.proofs.gifts.take_in.Goals as goal

pub returns-in_ok-join_at-in-Some : goal.returns-in_ok-join_at-in-Some
returns-in_ok-join_at-in-Some c =
    taken_more c.args.gift.now c.in_ok-given.given c.into_update.result c.args.all.now.items c.as_slice.result.now c.join_at.new.all.items c.known_at.result c.in-Some.at c.in_ok-given.ensures c.into_update.ensures c.as_slice.ensures.value c.known_at.ensures c.in-Some.is
    c.requires c.in_ok-join_at-in-Some.ensures

pub returns-in_ok-push-in-None : goal.returns-in_ok-push-in-None
returns-in_ok-push-in-None c =
    taken_first c.args.gift.now c.in_ok-given.given c.args.all.now.items c.as_slice.result.now c.push.new.self.items c.known_at.result c.in_ok-given.ensures c.as_slice.ensures.value c.known_at.ensures c.in-None.is c.requires c.in_ok-push-in-None.ensures.items
