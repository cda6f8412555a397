use Rattle.std.proofs.lemmas.Result.{IfOk-weaker}
use Rattle.pb_items.proofs.Few.{few_in_loop}
use Rattle.pb_items.proofs.items.items.Goals as goal

pub returns-in-Some-clause-few : goal.returns-in-Some-clause-few
returns-in-Some-clause-few c =
    IfOk-weaker c.items_in_loop.result _ _ (λ items e. rw e (few_in_loop c.args.start.now c.in-Some.looped)) c.items_in_loop.ensures
