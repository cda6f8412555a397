use Rattle.pb_planning.proofs.OnePlan.{plans_are_one, forks_are_apart}
use Rattle.pb_planning.proofs.plans_are_one.Goals as goal

pub returns : goal.returns
returns c = record { one = plans_are_one; forks = forks_are_apart }
