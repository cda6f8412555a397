use Rattle.pb_driver.proofs.Pooling.{came_all, out_ready}
use Rattle.pb_driver.proofs.pooled.collect_any.Goals as goal

pub returns-clause-answers : goal.returns-clause-answers
returns-clause-answers g c =
    let e = c.wait_any-fork.ensures in
    (came_all g.N.Allows.allows c.args.pool.now c.args.main.now c.wait_any-fork.new.main c.args.engine.now c.wait_any-fork.result.0 c.wait_any-fork.result.1 c.requires.since e.seat e.collected.0 e.collected.1 e.out e.idle e.above).0

pub returns-clause-waits : goal.returns-clause-waits
returns-clause-waits g c =
    let e = c.wait_any-fork.ensures in
    (came_all g.N.Allows.allows c.args.pool.now c.args.main.now c.wait_any-fork.new.main c.args.engine.now c.wait_any-fork.result.0 c.wait_any-fork.result.1 c.requires.since e.seat e.collected.0 e.collected.1 e.out e.idle e.above).1

pub returns-clause-fits : goal.returns-clause-fits
returns-clause-fits g c =
    let e = c.wait_any-fork.ensures in
    (came_all g.N.Allows.allows c.args.pool.now c.args.main.now c.wait_any-fork.new.main c.args.engine.now c.wait_any-fork.result.0 c.wait_any-fork.result.1 c.requires.since e.seat e.collected.0 e.collected.1 e.out e.idle e.above).2

pub returns-clause-came : goal.returns-clause-came
returns-clause-came g c =
    let e = c.wait_any-fork.ensures in
    (came_all g.N.Allows.allows c.args.pool.now c.args.main.now c.wait_any-fork.new.main c.args.engine.now c.wait_any-fork.result.0 c.wait_any-fork.result.1 c.requires.since e.seat e.collected.0 e.collected.1 e.out e.idle e.above).3

pub wait_any-fork-requires-clause-out : goal.wait_any-fork-requires-clause-out
wait_any-fork-requires-clause-out g c =
    (out_ready c.args.pool.now c.args.main.now c.args.engine.now c.requires.since c.requires.out).1
