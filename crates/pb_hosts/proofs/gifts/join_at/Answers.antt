use Rattle.std.proofs.Common.{length, refl}
use Rattle.std.proofs.lemmas.Option.{slice_get_read, slice_get_past}
use Rattle.pb_hosts.proofs.Preparing.{joined_there, joined_nowhere}
use Rattle.pb_hosts.proofs.gifts.join_at.Goals as goal

pub returns-in_ok-join_to-in-Some : goal.returns-in_ok-join_to-in-Some
returns-in_ok-join_to-in-Some c =
    joined_there c.args.next c.args.all.now.items _ c.args.at c.in-Some.one.now c.join_to.new.one
    (slice_get_read c.args.all.now.items (length c.args.all.now.items) c.args.at c.in-Some.one.now refl c.in-Some.ensures.item.3.0 c.in-Some.ensures.item.1)
    refl c.in_ok-join_to-in-Some.ensures.host c.in_ok-join_to-in-Some.ensures.both

pub returns-in-None : goal.returns-in-None
returns-in-None c = joined_nowhere c.args.next c.args.all.now.items c.args.all.now.items c.args.at (slice_get_past c.args.all.now.items c.args.at c.in-None.ensures.item.3)
