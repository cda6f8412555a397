use Rattle.std.proofs.Common.{◌∙◌, arith}
use Rattle.pb_forks.specs.Seats.{main_view}
use Rattle.pb_driver.specs.Crews.{stays_more}
use Rattle.pb_driver.proofs.Pooling.{seat_below, within_came}
use Rattle.pb_driver.proofs.Posting.{drained_more, collected_log}
use Rattle.pb_driver.proofs.pooled.collect_rest.Goals as goal

pub loop-preserved : goal.loop-preserved
loop-preserved g c =
    let e = c.wait_any.ensures in
    let i = c.loop.invariant in
    let log = collected_log g.N.Allows.allows c.wait_any.result.0 (main_view c.loop.main) (main_view c.wait_any.new.main) c.wait_any.result.1 e.collected.1 in
    let room = i.room in
    let less = i.less in
    let idle = e.idle in
    let out = e.out in
    record {
      same = e.seat ∙ i.same;
      room = omega (arith, room, idle, out);
      less = omega (arith, less, out);
      drained = drained_more (main_view c.args.main.now).log (main_view c.loop.main).log (main_view c.wait_any.new.main).log c.wait_any.result.0 c.wait_any.result.1 i.drained log;
      none = λ z. absurd (omega (arith, z, less, out));
      within = stays_more (main_view c.args.main.now) (main_view c.loop.main) (main_view c.wait_any.new.main) i.within
          (within_came g.N.Allows.allows c.wait_any.result.0 (main_view c.loop.main) c.wait_any.result.1 (main_view c.wait_any.new.main) (seat_below c.args.pool.now c.loop.main c.wait_any.result.0 (i.same ∙ c.requires.seat) e.collected.0) e.collected.1);
    }
