use Rattle.pb_driver.proofs.Handing.{spread_none}
use Rattle.pb_driver.proofs.threads.no_events.Goals as goal

pub returns-clause-spread : goal.returns-clause-spread
returns-clause-spread g c = spread_none g.N.Runner.ran c.args.runners.now.items c.args.plan.now g.met.N.Runner.ran_none
