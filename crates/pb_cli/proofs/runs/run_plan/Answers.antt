use Rattle.std.proofs.Common.{rules, inr}
use Rattle.pb_cli.proofs.Running.{tabled_cut}
use Rattle.pb_cli.proofs.runs.run_plan.Goals as goal

pub returns-in-Some-clause-stopped : goal.returns-in-Some-clause-stopped
returns-in-Some-clause-stopped g c = λ fault trail h. inr (tabled_cut _ _ _ _ _ trail fault _ _ (search rules) (search rules) (c.run_tabled.ensures.cut fault trail h))
