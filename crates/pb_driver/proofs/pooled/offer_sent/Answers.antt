use Rattle.std.proofs.Common.{arith, ◌∙◌, ap}
use Rattle.pb_state.specs.State.{State}
use Rattle.pb_driver.proofs.Pooling.{sent_ready, sent_fits_pool, posted_sent, seat_below}
use Rattle.pb_driver.proofs.pooled.offer_sent.Goals as goal

pub unreachable-requires : goal.unreachable-requires
unreachable-requires g c =
    let ready = sent_ready c.args.pool.now c.args.main.now c.args.engine.now c.args.job c.requires in
    let room = ready.1 in
    let none = c.in_default.ensures.none in
    omega (arith, room, none)

pub offer-requires-clause-ticket : goal.offer-requires-clause-ticket
offer-requires-clause-ticket g c =
    let ready = sent_ready c.args.pool.now c.args.main.now c.args.engine.now c.args.job c.requires in
    let few = c.sends-sent.ensures.few (ap (λ (s : State). s.is_open) c.state.ensures.value ∙ ready.4) in
    let value = c.sends-sent.ensures.value in
    let here = ap (λ (s : State). s.sends) c.state.ensures.value in
    let sends = ready.3 in
    (ready.2, omega (arith, few, value, here, sends))

pub returns-clause-fits : goal.returns-clause-fits
returns-clause-fits g c =
    let e = c.offer.ensures in
    let some = c.in-Some.ensures.some in
    sent_fits_pool c.args.pool.now c.args.main.now c.offer.new.main c.args.engine.now c.args.job c.in-Some.fork c.requires some.0 some.1 e.seat e.idle e.out e.above e.offered

pub returns-clause-posted : goal.returns-clause-posted
returns-clause-posted g c =
    let e = c.offer.ensures in
    let ready = sent_ready c.args.pool.now c.args.main.now c.args.engine.now c.args.job c.requires in
    posted_sent c.args.main.now c.offer.new.main c.args.job c.in-Some.fork (seat_below c.args.pool.now c.args.main.now c.in-Some.fork ready.0 c.in-Some.ensures.some.0) e.seat e.idle e.out e.offered
