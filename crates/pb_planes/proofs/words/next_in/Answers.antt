use Rattle.std.proofs.Common.{rules, arith, ◌+◌, ◌*◌}
use Rattle.pb_planes.proofs.Walked.{clear_on, shown_true}
use Rattle.pb_planes.proofs.words.next_in.Goals as goal

pub loop-index-init : goal.loop-index-init
loop-index-init c = (omega arith, omega arith, λ i low high. absurd (omega arith))

pub first_from-requires : goal.first_from-requires
first_from-requires c = c.loop-index.invariant.0

pub returns-in-Some-clause-some : goal.returns-in-Some-clause-some
returns-in-Some-clause-some c =
    let found = c.in-Some.ensures.some in
    let inv = c.loop-index.invariant in (
      omega arith,
      shown_true c.args.words.now c.loop-index.index c.in-Some.bit found.1 found.2,
      clear_on c.args.words.now (64 * c.args.first + c.args.place) c.loop-index.index c.loop-index.start c.in-Some.bit (omega arith) found.3 inv.2,
    )

pub loop-index-preserved : goal.loop-index-preserved
loop-index-preserved c =
    let inv = c.loop-index.invariant in
    let next = clear_on c.args.words.now (64 * c.args.first + c.args.place) c.loop-index.index c.loop-index.start 64 (omega arith) (search rules) inv.2 in
    (omega arith, omega arith, λ i low high. next i low (omega arith))

pub returns-clause-none : goal.returns-clause-none
returns-clause-none c =
    let inv = c.loop-index.invariant in
    λ i low high. inv.2 i low (omega arith)
