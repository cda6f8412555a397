use Rattle.std.proofs.Common.{arith, sym, subst}
use Rattle.std.proofs.lemmas.Grind.{common_steps}
use Rattle.pb_driver.specs.Workers.{IsStarted}
use Rattle.pb_driver.proofs.Working.{joined_all, joined_one, none_left}
use Rattle.pb_driver.proofs.workers.join_all.Goals as goal

pub loop-handle-preserved : goal.loop-handle-preserved
loop-handle-preserved g c = record {
  room = grind (arith, common_steps);
  back = λ all started.
      subst (λ l. IsStarted g.N.Runner.ran all l c.pop.new.self.items) (sym c.push_reserved.ensures.items)
      (joined_one g.N.Runner.ran all c.loop-handle.workers.items c.pop.new.self.items c.in-Some.handle c.join.result c.join.ensures
      (subst (λ hs. IsStarted g.N.Runner.ran all c.loop-handle.workers.items hs) c.in-Some.ensures.items (c.loop-handle.invariant.back all started)));
}

pub returns : goal.returns
returns g c = record {
  back = λ all started.
      joined_all g.N.Runner.ran g.met.N.Runner.ran_none all c.loop-handle.workers.items
      (subst (λ hs. IsStarted g.N.Runner.ran all c.loop-handle.workers.items hs) (none_left c.loop-handle.handles.items c.loop-handle.handles.len c.loop-handle.handles.ok.0 c.in_default.ensures.cases.0) (c.loop-handle.invariant.back all started));
}
