use Rattle.std.proofs.Common.{rules, arith}
use Rattle.pb_planes.proofs.Counted.{whole_word}
use Rattle.pb_planes.proofs.words.count_in.Goals as goal

pub loop-index-preserved : goal.loop-index-preserved
loop-index-preserved c =
    let more = whole_word c.args.words.now c.loop-index.index in
    let inv = c.loop-index.invariant in
    let ones = c.ones_of.ensures.ones in
    let most = c.ones_of.ensures.most in
    (omega arith, omega arith)
