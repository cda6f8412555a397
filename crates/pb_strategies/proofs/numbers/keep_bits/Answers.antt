use Rattle.std.proofs.Common.{◌+◌, ◌/◌, ◌<◌, ◌∙◌, length, ap, refl, sym}
use Rattle.pb_strategies.proofs.Numbering.{bit_there, one_kept}
use Rattle.pb_strategies.proofs.numbers.keep_bits.Goals as goal

pub loop-bit-preserved : goal.loop-bit-preserved
loop-bit-preserved c =
    let l = c.loop-bit in
    let lt : l.bit-index < length c.args.bits.now = c.loop-bit-test.true in
    let there = bit_there c.args.bits.now l.bit-index c.bit-item.result lt c.bit-item.is in
    one_kept c.args.set.now l.set c.keep_bit.new.set c.bit-item.result c.args.bits.now c.args.number l.bit-index (l.bit-index + 1) l.left (l.left / 2) l.invariant lt there
    (l.invariant.width ∙ c.requires l.bit-index lt ∙ ap length (sym there)) c.keep_bit.ensures refl refl
