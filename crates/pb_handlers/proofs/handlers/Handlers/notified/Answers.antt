use Rattle.std.proofs.Common.{ap, length, arith}
use Rattle.pb_handlers.proofs.handlers.Handlers.notified.Goals as goal

pub numbers_of-requires : goal.numbers_of-requires
numbers_of-requires c = omega (arith, ap length c.as_slice.ensures, c.in_ok-marks.ensures.few)
