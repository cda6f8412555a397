use Rattle.std.proofs.Common.{◌∙◌, ap}
use Rattle.pb_forks.specs.Views.{first_main, deals, idle_forks, jobs_out}
use Rattle.pb_forks.proofs.SplitsJoins.{deals_all}
use Rattle.pb_forks.proofs.Idle.{idle_start}
use Rattle.pb_forks.proofs.Out.{out_start}
use Rattle.pb_forks.proofs.seats.Pool.new.Goals as goal

pub returns-clause-pool : goal.returns-clause-pool
returns-clause-pool g c =
    let pool = c.in_ok-pool.ensures in
    let main = c.deal_all.ensures.main in
    (pool.0, main.0 ∙ pool.1, main.1 ∙ (ap (λ k. deals k (first_main k)) pool.0 ∙ deals_all c.args.forks))

pub returns-clause-idle : goal.returns-clause-idle
returns-clause-idle g c = let is = (returns-clause-pool g c).2 in (ap idle_forks is ∙ idle_start c.args.forks, ap jobs_out is ∙ out_start c.args.forks)
