use Rattle.std.proofs.Common.{◌-◌, ◌+◌, drop, length, arith}
use Rattle.pb_patterns.proofs.Rows.{name_begun, name_at, row_fits}
use Rattle.pb_patterns.proofs.glob.fits_in.Goals as goal

pub loop-back-init : goal.loop-back-init
loop-back-init c = name_begun c.args.pattern.now c.args.name.now c.begin.new.row (length c.args.name.now - 0) (omega arith) c.begin.ensures

pub loop-back-preserved : goal.loop-back-preserved
loop-back-preserved c =
    let n = length c.args.name.now in
    name_at c.args.pattern.now c.args.name.now c.step.new.row (n - 1 - c.loop-back.back) (n - c.loop-back.back) (n - (c.loop-back.back + 1)) c.index-name-name.result
    (omega (arith, c.loop-back-test.true)) (omega (arith, c.loop-back-test.true)) (omega (arith, c.loop-back-test.true)) c.index-name-name.is
    (c.step.ensures (drop (n - c.loop-back.back) c.args.name.now) c.loop-back.invariant)

pub returns : goal.returns
returns c = row_fits c.args.pattern.now c.args.name.now c.loop-back.row (length c.args.name.now - c.loop-back.back) (omega (arith, c.loop-back-test.false)) c.loop-back.invariant
