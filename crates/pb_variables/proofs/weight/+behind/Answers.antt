use Rattle.std.proofs.Common.{◌+◌, ◌*◌, ◌<◌, arith}
use Rattle.pb_value.specs.Datum.{nodes}
use Rattle.pb_value.proofs.Falls.{entry_falls}
use Rattle.pb_variables.proofs.weight.+behind.Goals as goal

pub behind_dict-behind_value-requires : goal.behind_dict-behind_value-requires
behind_dict-behind_value-requires t c =
    let l = c.loop-name in
    let w = entry_falls c.args.dict.now l.name-iterator c.next.new.self (c.in-Some.name.now, c.in-Some.value.now) l.invariant.1 c.in-Some.ensures.steps in
    let h : 2 * (nodes c.in-Some.value.now + 1) + 0 < t = omega (arith, w) in
    (h, tt)
