use Rattle.std.proofs.Common.{ℕ, ◌+◌, ◌^◌, ◌<◌, ◌≤◌, arith}
use Rattle.std.proofs.Math.Nat.{pow-le-pow_right}
use Rattle.pb_patterns.proofs.number.value.Goals as goal

small : (value i n : ℕ) → value + 1 ≤ 10 ^ i → i < n → n ≤ 9 → value + 1 ≤ 100000000
small value i n w below few = let p : 10 ^ i ≤ 10 ^ 8 = pow-le-pow_right {n = 10} (omega arith) {i = i} {j = 8} (omega arith) in omega (arith, w, p)

pub overflow_mul-value : goal.overflow_mul-value
overflow_mul-value c =
    let w : c.loop-digit.value + 1 ≤ 100000000 = small c.loop-digit.value c.loop-digit.digit-index _ c.loop-digit.invariant.1 c.loop-digit-test.true c.requires.few in omega arith

pub overflow_add-value : goal.overflow_add-value
overflow_add-value c =
    let w : c.loop-digit.value + 1 ≤ 100000000 = small c.loop-digit.value c.loop-digit.digit-index _ c.loop-digit.invariant.1 c.loop-digit-test.true c.requires.few in
    omega (arith, c.type_inv.digits c.loop-digit.digit-index)
