use Rattle.std.proofs.Common.{rules, arith, ◌∙◌, ◌*◌, ◌+◌, refl}
use Rattle.pb_planes.proofs.Counted.{whole_word, part_word}
use Rattle.pb_planes.proofs.Walked.{shows}
use Rattle.pb_planes.proofs.words.nth_in.Goals as goal

pub loop-index-preserved : goal.loop-index-preserved
loop-index-preserved c =
    let more = whole_word c.args.words.now c.loop-index.index in
    let inv = c.loop-index.invariant in
    let ones = c.ones_of-ones.ensures.ones in
    omega arith

pub returns-then-left-ones-clause-some : goal.returns-then-left-ones-clause-some
returns-then-left-ones-clause-some c =
    let r = c.nth_of_word.result in
    let i = c.loop-index.index in
    let inv = c.loop-index.invariant in
    let below = c.nth_of_word.ensures.below in
    let there = shows c.args.words.now (i * 64 + r) i r refl below in
    let part = part_word c.args.words.now i r (omega arith) in
    let before = c.nth_of_word.ensures.before in
    (there ∙ c.nth_of_word.ensures.set, omega arith)
