use Rattle.std.proofs.Common.{◌-◌, ◌+◌, ◌∷◌, length, refl, arith}
use Rattle.pb_patterns.proofs.Rows.{step_begun, steps_at, row_whole}
use Rattle.pb_patterns.proofs.glob.step.Goals as goal

pub loop-back-init : goal.loop-back-init
loop-back-init c =
    λ cs so_far. step_begun c.args.pattern.now c.args.c cs c.args.row.now (length c.args.pattern.now) (length c.args.pattern.now - 0) _ refl (omega arith) so_far refl

pub loop-back-preserved : goal.loop-back-preserved
loop-back-preserved c =
    let n = length c.args.pattern.now in
    λ cs so_far. steps_at c.args.pattern.now c.args.c cs c.loop-back.row c.loop-back.old_behind c.fits_more.result _ c.index-pattern-at.result (n - 1 - c.loop-back.back) (n - c.loop-back.back)
    (n - (c.loop-back.back + 1)) (omega (arith, c.loop-back-test.true)) (omega (arith, c.loop-back-test.true)) (omega (arith, c.loop-back-test.true)) c.index-pattern-at.is refl c.fits_more.ensures
    (c.loop-back.invariant cs so_far)

pub returns : goal.returns
returns c =
    λ cs so_far. row_whole c.args.pattern.now (c.args.c ∷ cs) c.loop-back.row (length c.args.pattern.now - c.loop-back.back) (omega (arith, c.loop-back-test.false)) (c.loop-back.invariant cs so_far).0
