use Rattle.pb_patterns.proofs.Faults.{one_more}
use Rattle.pb_patterns.proofs.Firsts.{first_met, one_more_taken}
use Rattle.pb_patterns.proofs.reading.each_of.Goals as goal

pub returns-in-Err-clause-fault : goal.returns-in-Err-clause-fault
returns-in-Err-clause-fault c =
    λ other. first_met c.args.texts.now c.loop-text.text-index c.text-item.result c.as_str.result.now c.loop-text.elements c.in-Err.fault c.loop-text-test.true c.text-item.is c.as_str.ensures
    c.loop-text.invariant.0 c.loop-text.invariant.1 (c.in-Err.ensures.fault other)

pub loop-text-preserved : goal.loop-text-preserved
loop-text-preserved c = (
  rw c.in_ok-push-in-Ok.ensures.ok
      (one_more c.args.texts.now c.loop-text.text-index c.text-item.result c.as_str.result.now c.loop-text.elements c.in-Ok.element c.loop-text-test.true c.text-item.is c.as_str.ensures
      c.loop-text.invariant.0 c.in-Ok.ensures.value),
  one_more_taken c.args.texts.now c.loop-text.text-index c.text-item.result c.as_str.result.now c.loop-text.elements c.loop-text-test.true c.text-item.is c.as_str.ensures
      c.loop-text.invariant.0 c.loop-text.invariant.1 c.in-Ok.ensures.taken,
)
