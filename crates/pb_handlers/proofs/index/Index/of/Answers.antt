use Rattle.pb_handlers.proofs.Lookups.{one_more}
use Rattle.pb_handlers.proofs.index.Index.of.Goals as goal

pub loop-number-preserved : goal.loop-number-preserved
loop-number-preserved c = record {
  long = c.in_ok-add_handler.ensures.long;
  among = λ word k. one_more word c.args.handlers.now c.index-handlers-number.result c.loop-number.number k _ _ c.loop-number-test.true c.index-handlers-number.is
      (c.in_ok-add_handler.ensures.among word k) (c.loop-number.invariant.among word k);
}
