use Rattle.std.proofs.Common.{◌≡◌, ◌&&◌, Bool, sym, subst}
use Rattle.std.specs.Simd.Lanes.{zip2}
use Rattle.pb_strategies.specs.Numbers.{agrees}
use Rattle.pb_strategies.proofs.numbers.keep_bit.Goals as goal

pub returns-then-is_set : goal.returns-then-is_set
returns-then-is_set c = subst (λ (t : Bool). c.and_with.new.self ≡ zip2 (λ (a b : Bool). a && agrees t b) c.args.set.now c.args.bit.now) (sym c.if-is_set.true) c.and_with.ensures

pub returns-else-is_set : goal.returns-else-is_set
returns-else-is_set c = subst (λ (t : Bool). c.minus_with.new.self ≡ zip2 (λ (a b : Bool). a && agrees t b) c.args.set.now c.args.bit.now) (sym c.if-is_set.false) c.minus_with.ensures
