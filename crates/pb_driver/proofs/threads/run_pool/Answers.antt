use Rattle.std.proofs.Common.{rules, ◌≡◌, [], length, arith, refl, sym, ◌∙◌, ap, subst}
use Rattle.pb_forks.specs.Seats.{forks_of, main_view}
use Rattle.pb_driver.specs.declared.driver.RunFault.TheVariants.{Closed}
use Rattle.pb_driver.specs.Driven.{IsWorkersAnswer}
use Rattle.pb_driver.specs.Workers.{HaveShares, IsRunInPool, IsSpread, IsStoppedInPool}
use Rattle.pb_driver.proofs.Cutting.{cut_none}
use Rattle.pb_driver.proofs.Driving.{empty_begun}
use Rattle.pb_driver.proofs.Handing.{closed_later, err_as, err_ended, ok_as, spread_by}
use Rattle.pb_driver.proofs.Working.{left_workers, paired_fresh, paired_many, runners_back, seats_long, works_many}
use Rattle.pb_driver.proofs.threads.run_pool.Goals as goal

pub returns-in_default-clause-begun : goal.returns-in_default-clause-begun
returns-in_default-clause-begun g c = rw c.no_events.ensures.none (empty_begun (IsWorkersAnswer g.N.Allows.allows) c.args.plan (length c.args.runners.now.items) c.args.commands.now)

pub returns-in_default-clause-cut : goal.returns-in_default-clause-cut
returns-in_default-clause-cut g c = rw c.no_events.ensures.none (cut_none c.args.plan (length c.args.runners.now.items) (g.W.LineOut.taken c.args.writer.now))

pub returns-in_default-clause-later : goal.returns-in_default-clause-later
returns-in_default-clause-later g c = rw c.no_events.ensures.none ([], c.no_events.ensures.spread)

pub returns-in_default-with_capacity-clause-begun : goal.returns-in_default-with_capacity-clause-begun
returns-in_default-with_capacity-clause-begun g c = rw c.no_events-in_default-with_capacity.ensures.none (empty_begun (IsWorkersAnswer g.N.Allows.allows) c.args.plan (length c.args.runners.now.items) c.args.commands.now)

pub returns-in_default-with_capacity-clause-cut : goal.returns-in_default-with_capacity-clause-cut
returns-in_default-with_capacity-clause-cut g c = rw c.no_events-in_default-with_capacity.ensures.none (cut_none c.args.plan (length c.args.runners.now.items) (g.W.LineOut.taken c.args.writer.now))

pub returns-in_default-with_capacity-clause-later : goal.returns-in_default-with_capacity-clause-later
returns-in_default-with_capacity-clause-later g c = rw c.no_events-in_default-with_capacity.ensures.none ([], c.no_events-in_default-with_capacity.ensures.spread)

pub returns-in_default-with_capacity-2-clause-begun : goal.returns-in_default-with_capacity-2-clause-begun
returns-in_default-with_capacity-2-clause-begun g c = rw c.no_events-in_default-with_capacity-2.ensures.none (empty_begun (IsWorkersAnswer g.N.Allows.allows) c.args.plan (length c.args.runners.now.items) c.args.commands.now)

pub returns-in_default-with_capacity-2-clause-cut : goal.returns-in_default-with_capacity-2-clause-cut
returns-in_default-with_capacity-2-clause-cut g c = rw c.no_events-in_default-with_capacity-2.ensures.none (cut_none c.args.plan (length c.args.runners.now.items) (g.W.LineOut.taken c.args.writer.now))

pub returns-in_default-with_capacity-2-clause-later : goal.returns-in_default-with_capacity-2-clause-later
returns-in_default-with_capacity-2-clause-later g c = rw c.no_events-in_default-with_capacity-2.ensures.none ([], c.no_events-in_default-with_capacity-2.ensures.spread)

pub pair_all-requires-clause-runners : goal.pair_all-requires-clause-runners
pair_all-requires-clause-runners g c =
    let many : length c.in-Ok.seats.items ≡ c.len-count.result = seats_long c.in-Ok.seats.items c.len-count.result c.in-Ok.ensures.forks.1 in
    omega (arith, many, c.len-count.ensures, c.requires)

pub spread-ended-requires-clause-staff : goal.spread-ended-requires-clause-staff
spread-ended-requires-clause-staff g c κs within =
    let pool = c.in-Ok.ensures.pool in
    let same : forks_of c.in-Ok.pool ≡ c.len-count.result = pool.0 in
    let many = paired_many c.pair_all.new.workers.items c.in-Ok.seats.items c.pair_all.ensures.seats.1 in
    let length_is = c.in-Ok.seats.ok.0 in
    let long = c.len-2.ensures in
    let room = c.in-Ok-with_capacity-2.ensures.capacity in (
      pool.1,
      (ap (λ v. v.log) pool.2, c.in-Ok.ensures.idle.0 ∙ sym same),
      paired_fresh c.in-Ok.pool c.len-count.result c.in-Ok.seats.items c.pair_all.new.workers.items same c.in-Ok.ensures.forks.0 c.in-Ok.ensures.forks.1 c.pair_all.ensures.seats.1,
      c.in-Ok-with_capacity-2.ensures.items,
      omega (arith, many, length_is, long, room),
    )

pub dismiss-requires-clause-workers : goal.dismiss-requires-clause-workers
dismiss-requires-clause-workers g c =
    left_workers g.N.Runner.ran c.in-Ok.pool c.pair_all.new.workers.items c.spread-ended.result.workers.items c.spread-ended.result.main
    (paired_fresh c.in-Ok.pool c.len-count.result c.in-Ok.seats.items c.pair_all.new.workers.items c.in-Ok.ensures.pool.0 c.in-Ok.ensures.forks.0 c.in-Ok.ensures.forks.1 c.pair_all.ensures.seats.1) c.spread-ended.ensures.left

pub dismiss-requires-clause-room : goal.dismiss-requires-clause-room
dismiss-requires-clause-room g c =
    let many = paired_many c.pair_all.new.workers.items c.in-Ok.seats.items c.pair_all.ensures.seats.1 in
    let after = works_many g.N.Runner.ran c.pair_all.new.workers.items c.spread-ended.result.workers.items c.spread-ended.ensures.left.1 in
    let seats : length c.in-Ok.seats.items ≡ c.len-count.result = seats_long c.in-Ok.seats.items c.len-count.result c.in-Ok.ensures.forks.1 in
    let rooms = c.pair_all.ensures.room in
    let here = c.in-Ok.seats.ok in
    let there = c.args.runners.now.ok in (
      omega (arith, many, after, rooms.0, here.0, here.1),
      omega (arith, many, after, seats, rooms.1, there.0, there.1, c.len-count.ensures, c.requires),
    )

pub returns-clause-spread : goal.returns-clause-spread
returns-clause-spread g c =
    let before = c.pair_all.new.workers.items in
    let paired = paired_fresh c.in-Ok.pool c.len-count.result c.in-Ok.seats.items before c.in-Ok.ensures.pool.0 c.in-Ok.ensures.forks.0 c.in-Ok.ensures.forks.1 c.pair_all.ensures.seats.1 in
    let log = (main_view c.spread-ended.result.main).log in
    let same : forks_of c.in-Ok.pool ≡ length c.args.runners.now.items = let e = c.in-Ok.ensures.pool.0 in omega (arith, e, c.len-count.ensures, c.requires) in
    let shares : HaveShares g.N.Runner.ran c.args.runners.now.items c.dismiss.new.runners.items log =
    subst (λ olds. HaveShares g.N.Runner.ran olds c.dismiss.new.runners.items log) (runners_back before c.args.runners.now.items c.pair_all.ensures.runners.1) (c.dismiss.ensures.shares before paired c.spread-ended.ensures.left) in
    ok_as c.spread-ended.result.ended c.spread-ended.result.ended
    (λ e. IsRunInPool g.N.Allows.allows c.args.plan (forks_of c.in-Ok.pool) c.args.commands.now e.trail.items e.recap e.status log (g.W.LineOut.taken c.args.writer.now) (g.W.LineOut.taken c.spread-ended.result.writer.now))
    (λ e. IsSpread g.N.Runner.ran c.args.runners.now.items c.dismiss.new.runners.items c.args.plan e.trail.items [])
    refl
    (λ e p. spread_by g.N.Runner.ran c.args.runners.now.items c.dismiss.new.runners.items c.args.plan (forks_of c.in-Ok.pool) e.trail.items [] log same p.mails c.spread-ended.ensures.left.3 c.dismiss.ensures.many shares)
    c.spread-ended.ensures.run

pub returns-clause-later : goal.returns-clause-later
returns-clause-later g c =
    let before = c.pair_all.new.workers.items in
    let paired = paired_fresh c.in-Ok.pool c.len-count.result c.in-Ok.seats.items before c.in-Ok.ensures.pool.0 c.in-Ok.ensures.forks.0 c.in-Ok.ensures.forks.1 c.pair_all.ensures.seats.1 in
    let log = (main_view c.spread-ended.result.main).log in
    let same : forks_of c.in-Ok.pool ≡ length c.args.runners.now.items = let e = c.in-Ok.ensures.pool.0 in omega (arith, e, c.len-count.ensures, c.requires) in
    let shares : HaveShares g.N.Runner.ran c.args.runners.now.items c.dismiss.new.runners.items log =
    subst (λ olds. HaveShares g.N.Runner.ran olds c.dismiss.new.runners.items log) (runners_back before c.args.runners.now.items c.pair_all.ensures.runners.1) (c.dismiss.ensures.shares before paired c.spread-ended.ensures.left) in
    err_as c.spread-ended.result.ended c.spread-ended.result.ended
    (λ e. IsStoppedInPool g.N.Allows.allows c.args.plan (forks_of c.in-Ok.pool) c.args.commands.now e.0 e.1.items log (g.W.LineOut.taken c.args.writer.now) (g.W.LineOut.taken c.spread-ended.result.writer.now) (g.W.LineOut.failures c.args.writer.now) (g.W.LineOut.failures c.spread-ended.result.writer.now))
    _
    refl
    (λ e p. (p.later.0, spread_by g.N.Runner.ran c.args.runners.now.items c.dismiss.new.runners.items c.args.plan (forks_of c.in-Ok.pool) e.1.items p.later.0 log same p.later.1 c.spread-ended.ensures.left.3 c.dismiss.ensures.many shares))
    c.spread-ended.ensures.stopped

pub returns-clause-closed : goal.returns-clause-closed
returns-clause-closed g c =
    let before = c.pair_all.new.workers.items in
    let paired = paired_fresh c.in-Ok.pool c.len-count.result c.in-Ok.seats.items before c.in-Ok.ensures.pool.0 c.in-Ok.ensures.forks.0 c.in-Ok.ensures.forks.1 c.pair_all.ensures.seats.1 in
    let log = (main_view c.spread-ended.result.main).log in
    let same : forks_of c.in-Ok.pool ≡ length c.args.runners.now.items = let e = c.in-Ok.ensures.pool.0 in omega (arith, e, c.len-count.ensures, c.requires) in
    let shares : HaveShares g.N.Runner.ran c.args.runners.now.items c.dismiss.new.runners.items log =
    subst (λ olds. HaveShares g.N.Runner.ran olds c.dismiss.new.runners.items log) (runners_back before c.args.runners.now.items c.pair_all.ensures.runners.1) (c.dismiss.ensures.shares before paired c.spread-ended.ensures.left) in
    err_ended c.spread-ended.result.ended c.spread-ended.result.ended
    (λ e w. IsStoppedInPool g.N.Allows.allows c.args.plan (forks_of c.in-Ok.pool) c.args.commands.now e.0 e.1.items log (g.W.LineOut.taken c.args.writer.now) (g.W.LineOut.taken w) (g.W.LineOut.failures c.args.writer.now) (g.W.LineOut.failures w))
    (λ e w. e.0 ≡ Closed → (e.1.items ≡ []) × (g.W.LineOut.taken w ≡ g.W.LineOut.taken c.args.writer.now) × IsSpread g.N.Runner.ran c.args.runners.now.items c.dismiss.new.runners.items c.args.plan [] [])
    c.spread-ended.result.writer.now _ refl (search rules)
    (λ e p closed.
    let is = p.closed closed in
    (is.0, is.2, closed_later g.N.Runner.ran c.args.runners.now.items c.dismiss.new.runners.items c.args.plan (forks_of c.in-Ok.pool) log same is.1 c.dismiss.ensures.many shares))
    c.spread-ended.ensures.stopped
