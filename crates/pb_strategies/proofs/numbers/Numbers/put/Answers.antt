use Rattle.std.proofs.Common.{◌≡◌, true, false, arith, rules}
use Rattle.pb_strategies.proofs.Numbering.{put_by_number}
use Rattle.pb_strategies.proofs.numbers.Numbers.put.Goals as goal

never : false ≡ true → ⊥
never e = search rules

pub returns-then-left-gt0 : goal.returns-then-left-gt0
returns-then-left-gt0 c = λ hosts standing e are.
    put_by_number hosts c.args.host.0 standing c.args.next c.number_in-number.result c.put_bits-left.result c.args.self.now.bits.items c.put_bits-left.new.bits.items c.args.self.now.fits false e
    c.number_in-number.ensures c.put_bits-left.ensures.long c.put_bits-left.ensures.each c.put_bits-left.ensures.left (λ is. absurd (never is)) are

pub returns-else-left-gt0 : goal.returns-else-left-gt0
returns-else-left-gt0 c = λ hosts standing e are.
    put_by_number hosts c.args.host.0 standing c.args.next c.number_in-number.result c.put_bits-left.result c.args.self.now.bits.items c.put_bits-left.new.bits.items c.args.self.now.fits c.args.self.now.fits e
    c.number_in-number.ensures c.put_bits-left.ensures.long c.put_bits-left.ensures.each c.put_bits-left.ensures.left (λ is. (is, omega (arith, c.if-left-gt0.false))) are
