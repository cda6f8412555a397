use Rattle.std.proofs.Common.{◌≡◌, ◌+◌, ◌≤◌, ◌^◌, take, fold}
use Rattle.pb_patterns.specs.Subscripts.{with_digit}
use Rattle.pb_patterns.proofs.number.value.Given as goal

abbrev pub invariant-loop-digit : goal.invariant-loop-digit
invariant-loop-digit l = (l.value ≡ fold with_digit 0 (take l.digit-index l.digits)) × (l.value + 1 ≤ 10 ^ l.digit-index)
