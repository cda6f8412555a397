use denote.Param.{param}
use Rattle.std.proofs.Common.{arith, ◌≡◌, ◌++◌, map, reverse, sym, ◌∙◌, ap, subst}
use Rattle.std.proofs.lemmas.Grind.{common_steps}
use Rattle.pb_forks.proofs.Sent.{pool_sync}
use Rattle.pb_driver.specs.Workers.{AreWorkersOf, IsStarted, began}
use Rattle.pb_driver.proofs.Working.{last_worker, started_back, started_one}
use Rattle.pb_driver.proofs.workers.start_all.Goals as goal

pub start_one-requires-clause-seat : goal.start_one-requires-clause-seat
start_one-requires-clause-seat g c κs within =
    (last_worker c.args.hall.now.pool.now c.pop.new.self.items c.in-Some.worker (subst (AreWorkersOf c.args.hall.now.pool.now) c.in-Some.ensures.items c.loop-worker.invariant.workers)).1

pub start_one-requires-sync-P : goal.start_one-requires-sync-P
start_one-requires-sync-P g c κs within = record { shared = (pool_sync (param 1 g.row.N) g.N.Allows).shared }

pub loop-worker-preserved : goal.loop-worker-preserved
loop-worker-preserved g c = record {
  same = c.in-Ok.ensures.ok.1 ∙ c.loop-worker.invariant.same;
  workers = (last_worker c.args.hall.now.pool.now c.pop.new.self.items c.in-Some.worker (subst (AreWorkersOf c.args.hall.now.pool.now) c.in-Some.ensures.items c.loop-worker.invariant.workers)).0;
  split = subst (λ hs. c.args.workers.now.items ≡ c.pop.new.self.items ++ reverse (map began hs)) (sym c.push_reserved.ensures.items)
      (started_one c.args.workers.now.items c.pop.new.self.items c.in-Some.worker c.loop-worker.handles.items c.in-Ok.handle c.in-Ok.ensures.ok.0
      (c.loop-worker.invariant.split ∙ ap (λ l. l ++ reverse (map began c.loop-worker.handles.items)) c.in-Some.ensures.items));
  left = c.pop.ensures.capacity ∙ c.loop-worker.invariant.left;
  room = grind (arith, common_steps);
}

pub returns-in-Err-clause-split : goal.returns-in-Err-clause-split
returns-in-Err-clause-split g c =
    subst (λ l. IsStarted g.N.Runner.ran c.args.workers.now.items l c.loop-worker.handles.items) (sym c.push_reserved-in-Err.ensures.items)
    (started_back g.N.Runner.ran c.args.workers.now.items c.pop.new.self.items c.in-Some.worker c.in-Err.worker c.loop-worker.handles.items c.in-Err.ensures.err.0
    (c.loop-worker.invariant.split ∙ ap (λ l. l ++ reverse (map began c.loop-worker.handles.items)) c.in-Some.ensures.items))
