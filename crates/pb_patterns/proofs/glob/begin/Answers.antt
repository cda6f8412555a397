use Rattle.std.proofs.Common.{◌-◌, ◌+◌, length, refl, arith}
use Rattle.pb_patterns.proofs.Rows.{row_begun, begins_at, row_whole}
use Rattle.pb_patterns.proofs.glob.begin.Goals as goal

pub loop-back-init : goal.loop-back-init
loop-back-init c = row_begun c.args.pattern.now c.args.row.now (length c.args.pattern.now) (length c.args.pattern.now - 0) refl (omega arith) c.requires

pub loop-back-preserved : goal.loop-back-preserved
loop-back-preserved c =
    let n = length c.args.pattern.now in
    begins_at c.args.pattern.now c.loop-back.row c.fits_none.result c.index-pattern-at.result (n - 1 - c.loop-back.back) (n - c.loop-back.back) (n - (c.loop-back.back + 1))
    (omega (arith, c.loop-back-test.true)) (omega (arith, c.loop-back-test.true)) (omega (arith, c.loop-back-test.true)) c.index-pattern-at.is c.fits_none.ensures c.loop-back.invariant

pub returns : goal.returns
returns c =
    row_whole c.args.pattern.now _ c.loop-back.row (length c.args.pattern.now - c.loop-back.back) (omega (arith, c.loop-back-test.false)) c.loop-back.invariant
