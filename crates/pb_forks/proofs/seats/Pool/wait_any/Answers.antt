use Rattle.std.proofs.Common.{arith}
use Rattle.pb_forks.proofs.Above.{above_collected}
use Rattle.pb_forks.proofs.Idle.{idle_collected}
use Rattle.pb_forks.proofs.Out.{out_collected}
use Rattle.pb_forks.proofs.seats.Pool.wait_any.Goals as goal

pub returns-clause-idle : goal.returns-clause-idle
returns-clause-idle g c =
    let e = c.collect_any-fork.ensures in
    let wide = e.wide in
    let within = e.collected.0 in
    idle_collected g.A.Allows.allows _ _ _ _ (omega arith) e.collected.1

pub returns-clause-out : goal.returns-clause-out
returns-clause-out g c =
    let e = c.collect_any-fork.ensures in
    let wide = e.wide in
    let within = e.collected.0 in
    out_collected g.A.Allows.allows _ _ _ _ (omega arith) e.collected.1

pub returns-clause-above : goal.returns-clause-above
returns-clause-above g c = above_collected g.A.Allows.allows _ _ _ _ c.collect_any-fork.ensures.collected.1
