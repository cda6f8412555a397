use Rattle.std.proofs.Common.{arith}
use Rattle.std.proofs.lemmas.Grind.{common_steps}
use Rattle.pb_recap.proofs.Recounted.{counts_one_more}
use Rattle.pb_recap.proofs.recap.Recap.count.Goals as goal

pub returns-clause-scratch : goal.returns-clause-scratch
returns-clause-scratch c = counts_one_more c.args.plan.now c.args.state.now c.args.event.now c.args.self.now _ (grind (arith, common_steps))
