use Rattle.pb_template.proofs.Computing.{computed_at, none_computed_at, no_fault_at, fault_at}
use Rattle.pb_template.proofs.Matching.{none_at, bad_at, parts_at, only_at}
use Rattle.pb_template.proofs.template.parts_of.Goals as goal

pub returns-in-Err-clause-none : goal.returns-in-Err-clause-none
returns-in-Err-clause-none c other qs h = none_at c.args.pieces.now c.loop-piece.piece-index c.piece-item.result c.loop-piece-test.true c.piece-item.is (c.in-Err.ensures.none other) qs h

pub returns-in-Err-clause-fault : goal.returns-in-Err-clause-fault
returns-in-Err-clause-fault c other = bad_at c.args.pieces.now c.loop-piece.piece-index c.piece-item.result c.loop-piece.parts.items c.in-Err.fault c.loop-piece-test.true c.piece-item.is c.loop-piece.invariant.0 (c.in-Err.ensures.fault other)

pub loop-piece-preserved : goal.loop-piece-preserved
loop-piece-preserved c = rw c.in_ok-push-in-Ok.ensures.items (
  parts_at c.args.pieces.now c.loop-piece.piece-index c.piece-item.result c.loop-piece.parts.items c.in-Ok.part c.loop-piece-test.true c.piece-item.is c.loop-piece.invariant.0 c.in-Ok.ensures.part,
  only_at c.args.pieces.now c.loop-piece.piece-index c.piece-item.result c.loop-piece.parts.items c.in-Ok.part c.loop-piece-test.true c.piece-item.is c.loop-piece.invariant.1 c.in-Ok.ensures.only,
  computed_at c.args.pieces.now c.loop-piece.piece-index c.piece-item.result c.loop-piece.parts.items c.in-Ok.part c.loop-piece-test.true c.piece-item.is c.loop-piece.invariant.2 c.in-Ok.ensures.computed,
  no_fault_at c.args.pieces.now c.loop-piece.piece-index c.piece-item.result c.loop-piece-test.true c.piece-item.is c.loop-piece.invariant.3 c.in-Ok.ensures.no_fault,
)

pub returns-in-Err-clause-not_computed : goal.returns-in-Err-clause-not_computed
returns-in-Err-clause-not_computed c other = none_computed_at c.args.pieces.now c.loop-piece.piece-index c.piece-item.result c.loop-piece.parts.items c.loop-piece-test.true c.piece-item.is c.loop-piece.invariant.2 (c.in-Err.ensures.not_computed other)

pub returns-in-Err-clause-computed_fault : goal.returns-in-Err-clause-computed_fault
returns-in-Err-clause-computed_fault c other = fault_at c.args.pieces.now c.loop-piece.piece-index c.piece-item.result c.in-Err.fault c.loop-piece-test.true c.piece-item.is c.loop-piece.invariant.3 (c.in-Err.ensures.computed_fault other)
