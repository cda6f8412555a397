use Rattle.std.proofs.Common.{◌≡◌, false, drop, ap, sym, ◌∙◌, arith}
use Rattle.pb_template.specs.Pieces.{begins_special}
use Rattle.pb_template.proofs.Cutting.{plain_next}
use Rattle.pb_template.proofs.pieces.plain_size.Goals as goal

pub loop-n-preserved : goal.loop-n-preserved
loop-n-preserved c =
    let plain : begins_special (drop c.loop-n.n c.args.bytes.now) ≡ false = ap begins_special (sym c.rest_from.ensures) ∙ sym c.if-not-begins_special.ensures in
    (omega (arith, c.loop-n.invariant.0, plain_next c.args.bytes.now c.loop-n.n c.loop-n-test.true plain), omega (arith, c.loop-n-test.true))
