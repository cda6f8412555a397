use Rattle.std.proofs.Common.{◌≡◌, ◌<◌, ◌*◌, ◌%◌, ◌^◌, ◌+◌, ℕ, sym, ap, arith}
use Rattle.pb_value.proofs.KeptNames.{bit_fits}
use Rattle.pb_value.proofs.shared.with_bit.Goals as goal

-- the bit that is set, as the shift makes it
shifted : (p bits : ℕ) → bits + p < 18446744073709551616 → p ≡ 1 * p % 18446744073709551616
shifted p bits h = omega (arith, h)

pub overflow_add-result : goal.overflow_add-result
overflow_add-result c =
    let fits = bit_fits c.args.at c.args.bits c.requires.free c.ranges.bits.fits c.requires.few in
    let shift = shifted (2 ^ c.args.at) c.args.bits fits in
    omega (arith, fits, shift)

pub returns : goal.returns
returns c =
    let fits = bit_fits c.args.at c.args.bits c.requires.free c.ranges.bits.fits c.requires.few in
    ap (λ (p : ℕ). c.args.bits + p) (sym (shifted (2 ^ c.args.at) c.args.bits fits))
