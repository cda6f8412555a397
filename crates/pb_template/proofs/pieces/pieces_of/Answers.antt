use Rattle.std.proofs.Common.{◌≡◌, ◌<◌, ◌-◌, length, length-drop, drop, sym, arith}
use Rattle.pb_template.proofs.Cutting.{front_some, step_good, nonempty}
use Rattle.pb_template.proofs.pieces.pieces_of.Goals as goal

pub loop-rest-preserved : goal.loop-rest-preserved
loop-rest-preserved c =
    let rest = c.loop-rest.rest.now in
    let size = c.in-Ok.front.size in
    let some : 0 < length rest = nonempty rest (sym c.loop-rest-test.ensures) in
    let step = step_good c.args.text.now rest c.loop-rest.pieces.items c.in-Ok.front some c.loop-rest.invariant.1 c.in-Ok.ensures.cut.0 c.in-Ok.ensures.value c.loop-rest.invariant.0 in
    let left : length (drop size rest) ≡ length rest - size = length-drop size rest in
    (rw (c.in_ok-push-in-Ok.ensures.items, c.range_from-rest.ensures.value) step, rw c.range_from-rest.ensures.value (omega (arith, left, c.loop-rest.invariant.1)), c.range_from-rest.utf8)

pub loop-rest-smaller : goal.loop-rest-smaller
loop-rest-smaller c =
    let rest = c.loop-rest.rest.now in
    let size = c.in-Ok.front.size in
    let some : 0 < length rest = nonempty rest (sym c.loop-rest-test.ensures) in
    let step : 0 < size = front_some (length c.args.text.now - length rest) rest c.in-Ok.front some c.in-Ok.ensures.value in
    let left : length (drop size rest) ≡ length rest - size = length-drop size rest in
    rw c.range_from-rest.ensures.value (omega (arith, left, some, step))
