use Rattle.std.proofs.Common.{arith}
use Rattle.pb_forks.proofs.Idle.{idle_found}
use Rattle.pb_forks.proofs.Out.{out_found}
use Rattle.pb_forks.proofs.seats.Pool.try_collect.Goals as goal

pub returns-clause-idle : goal.returns-clause-idle
returns-clause-idle g c =
    let e = c.collect.ensures in
    let wide = e.wide in
    let within = c.requires.fork in
    idle_found g.A.Allows.allows c.args.fork _ _ _ (omega arith) e.looked e.sees

pub returns-clause-out : goal.returns-clause-out
returns-clause-out g c =
    let e = c.collect.ensures in
    let wide = e.wide in
    let within = c.requires.fork in
    out_found g.A.Allows.allows c.args.fork _ _ _ (omega arith) e.looked e.sees
