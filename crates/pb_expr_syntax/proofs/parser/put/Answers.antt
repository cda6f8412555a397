use Rattle.std.proofs.Common.{◌<◌, arith}
use Rattle.pb_expr_syntax.proofs.ViewLemmas.{put_one}
use Rattle.pb_expr_syntax.proofs.parser.put.Goals as goal

pub loop-i-preserved : goal.loop-i-preserved
loop-i-preserved c =
    let pos : 0 < c.loop-i.i = omega arith in
    (put_one _ _ _ _ _ _ c.in_ok-push.ensures.items pos c.loop-i.invariant.1 c.loop-i.invariant.0, omega arith)
