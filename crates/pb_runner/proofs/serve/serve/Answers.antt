use Rattle.std.proofs.Common.{◌∙◌}
use Rattle.pb_forks.specs.Seats.{fork_view}
use Rattle.pb_runner.proofs.Serving.{served_one}
use Rattle.pb_runner.proofs.serve.serve.Goals as goal

pub loop-preserved-in-Some-wait_offer : goal.loop-preserved-in-Some-wait_offer
loop-preserved-in-Some-wait_offer g c =
    let e = c.in-Some-wait_offer.ensures in
    let a = c.answer.ensures.seat in
    let i = c.loop.invariant.same in
    record {
      same = (a.0 ∙ e.seat.0 ∙ i.0, a.1 ∙ e.seat.1 ∙ i.1);
      served = served_one g.N.Runner.ran c.args.runner.now c.loop.runner c.run-outcome.new.self (fork_view c.args.seat) (fork_view c.loop.seat) (fork_view c.wait_offer.new.fork) (fork_view c.answer.new.fork) c.in-Some-wait_offer.job c.run-outcome.result c.report_of.result
          g.met.N.Runner.ran_more c.loop.invariant.served e.looked c.run-outcome.ensures.ran c.report_of.ensures c.answer.ensures.answered;
    }

pub loop-preserved-in-Some-wait_offer-2 : goal.loop-preserved-in-Some-wait_offer-2
loop-preserved-in-Some-wait_offer-2 g c =
    let e = c.in-Some-wait_offer.ensures in
    let a = c.answer.ensures.seat in
    let i = c.loop.invariant.same in
    record {
      same = (a.0 ∙ e.seat.0 ∙ i.0, a.1 ∙ e.seat.1 ∙ i.1);
      served = served_one g.N.Runner.ran c.args.runner.now c.loop.runner c.run-outcome.new.self (fork_view c.args.seat) (fork_view c.loop.seat) (fork_view c.wait_offer.new.fork) (fork_view c.answer.new.fork) c.in-Some-wait_offer.job c.run-outcome.result c.report_of.result
          g.met.N.Runner.ran_more c.loop.invariant.served e.looked c.run-outcome.ensures.ran c.report_of.ensures c.answer.ensures.answered;
    }

pub loop-preserved : goal.loop-preserved
loop-preserved g c =
    let e = c.in-Some-wait_offer.ensures in
    let a = c.answer.ensures.seat in
    let i = c.loop.invariant.same in
    record {
      same = (a.0 ∙ e.seat.0 ∙ i.0, a.1 ∙ e.seat.1 ∙ i.1);
      served = served_one g.N.Runner.ran c.args.runner.now c.loop.runner c.run-outcome.new.self (fork_view c.args.seat) (fork_view c.loop.seat) (fork_view c.wait_offer.new.fork) (fork_view c.answer.new.fork) c.in-Some-wait_offer.job c.run-outcome.result c.report_of.result
          g.met.N.Runner.ran_more c.loop.invariant.served e.looked c.run-outcome.ensures.ran c.report_of.ensures c.answer.ensures.answered;
    }
