use Rattle.std.proofs.Common.{◌+◌, ◌*◌, ◌<◌, arith}
use Rattle.pb_value.specs.Datum.{nodes}
use Rattle.pb_value.proofs.Falls.{entry_falls}
use Rattle.pb_mentions.proofs.values.+mentions.Goals as goal

pub members_mention-mentions-requires : goal.members_mention-mentions-requires
members_mention-mentions-requires t c =
    let l = c.loop-key in
    let w = entry_falls c.args.dict.now l._key-iterator c.next.new.self (c.in-Some._key.now, c.in-Some.value.now) l.invariant.1 c.in-Some.ensures.steps in
    let h : 2 * (nodes c.in-Some.value.now + 1) + 0 < t = omega (arith, w) in
    (h, tt)
