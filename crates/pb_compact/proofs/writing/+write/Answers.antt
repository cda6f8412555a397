use Rattle.std.proofs.Common.{◌+◌, ◌*◌, ◌<◌, arith}
use Rattle.pb_value.specs.Datum.{nodes}
use Rattle.pb_value.proofs.Falls.{entry_falls}
use Rattle.pb_compact.proofs.writing.+write.Goals as goal

pub write_members-write-requires : goal.write_members-write-requires
write_members-write-requires t c =
    let l = c.loop-key in
    let w = entry_falls c.args.members.now l.key-iterator c.next.new.self (c.in-Some.key.now, c.in-Some.value.now) l.invariant.2 c.in-Some.ensures.steps in
    let h : 2 * (nodes c.in-Some.value.now + 1) + 0 < t = omega (arith, w) in
    (h, tt)
