use Rattle.std.proofs.Common.{ℕ, subst, ◌∙◌}
use Rattle.pb_forks.specs.Seats.{main_view, forks_of}
use Rattle.pb_driver.specs.Crews.{HasPosted}
use Rattle.pb_driver.specs.Cut.{IsCut}
use Rattle.pb_driver.specs.Driven.{IsBegunBy, IsWhole, IsWorkersAnswer}
use Rattle.pb_driver.specs.Mails.{HasGoneTo, mails_of}
use Rattle.pb_driver.proofs.Posting.{posted_all, gone_later, gone_same, none_out, fits_first, within_all}
use Rattle.pb_driver.proofs.Pooling.{room_kept}
use Rattle.pb_driver.proofs.pooled.drive.Goals as goal

pub run_crew-requires-clause-fits : goal.run_crew-requires-clause-fits
run_crew-requires-clause-fits g c = λ engine made.
    fits_first c.args.pool.now c.args.main.now c.args.plan c.forks-forks.result engine c.requires.seat c.requires.fresh.0 c.requires.fresh.1 c.forks-forks.ensures.is c.requires.forks made

pub collect_rest-requires-clause-seat : goal.collect_rest-requires-clause-seat
collect_rest-requires-clause-seat g c = c.in-Ok.ensures.run.mails.0 ∙ c.requires.seat

pub collect_rest-requires-clause-room : goal.collect_rest-requires-clause-room
collect_rest-requires-clause-room g c = room_kept c.args.pool.now c.args.main.now c.run_crew.new.hand c.requires.seat c.requires.fresh.1 c.in-Ok.ensures.run.mails.1

pub collect_rest-requires-in-Err-clause-seat : goal.collect_rest-requires-in-Err-clause-seat
collect_rest-requires-in-Err-clause-seat g c =
    (gone_same (IsWorkersAnswer g.N.Allows.allows) c.args.plan c.forks-forks.result c.in-Err.stopped.1.items c.in-Err.stopped.0 c.args.main.now c.run_crew.new.hand c.in-Err.ensures.stopped.lost).0
    ∙ c.requires.seat

pub collect_rest-requires-in-Err-clause-room : goal.collect_rest-requires-in-Err-clause-room
collect_rest-requires-in-Err-clause-room g c =
    room_kept c.args.pool.now c.args.main.now c.run_crew.new.hand c.requires.seat c.requires.fresh.1
    (gone_same (IsWorkersAnswer g.N.Allows.allows) c.args.plan c.forks-forks.result c.in-Err.stopped.1.items c.in-Err.stopped.0 c.args.main.now c.run_crew.new.hand c.in-Err.ensures.stopped.lost).1

pub returns-in-Ok-clause-run : goal.returns-in-Ok-clause-run
returns-in-Ok-clause-run g c =
    subst (λ (k : ℕ). IsWhole (IsWorkersAnswer g.N.Allows.allows) c.args.plan k c.args.commands.now c.in-Ok.ended.trail.items (g.W.LineOut.taken c.args.writer.now) (g.W.LineOut.taken c.run_crew.new.writer)) c.forks-forks.ensures.is c.in-Ok.ensures.run.whole

pub returns-in-Ok-clause-mails : goal.returns-in-Ok-clause-mails
returns-in-Ok-clause-mails g c =
    posted_all c.args.plan (forks_of c.args.pool.now) c.in-Ok.ended.trail.items c.args.main.now c.run_crew.new.hand (main_view c.collect_rest.new.main).log
    (subst (λ (k : ℕ). HasPosted c.args.main.now (mails_of c.args.plan k c.in-Ok.ended.trail.items) c.run_crew.new.hand) c.forks-forks.ensures.is c.in-Ok.ensures.run.mails) c.requires.fresh.0
    (c.collect_rest.ensures.none (none_out c.args.pool.now c.run_crew.new.hand c.in-Ok.ensures.run.last))

pub returns-in-Ok-clause-seat : goal.returns-in-Ok-clause-seat
returns-in-Ok-clause-seat g c = c.collect_rest.ensures.seat ∙ c.in-Ok.ensures.run.mails.0

pub returns-in-Err-clause-begun : goal.returns-in-Err-clause-begun
returns-in-Err-clause-begun g c =
    subst (λ (k : ℕ). IsBegunBy (IsWorkersAnswer g.N.Allows.allows) c.args.plan k c.args.commands.now c.in-Err.stopped.1.items) c.forks-forks.ensures.is c.in-Err.ensures.stopped.begun

pub returns-in-Err-clause-later : goal.returns-in-Err-clause-later
returns-in-Err-clause-later g c =
    gone_later (IsWorkersAnswer g.N.Allows.allows) c.args.plan (forks_of c.args.pool.now) c.in-Err.stopped.1.items c.in-Err.stopped.0 c.args.main.now c.run_crew.new.hand (main_view c.collect_rest-in-Err.new.main).log
    (subst (λ (k : ℕ). HasGoneTo (IsWorkersAnswer g.N.Allows.allows) (λ mails. HasPosted c.args.main.now mails c.run_crew.new.hand) c.args.plan k c.in-Err.stopped.1.items c.in-Err.stopped.0) c.forks-forks.ensures.is c.in-Err.ensures.stopped.lost) c.requires.fresh.0 c.collect_rest-in-Err.ensures.drained

pub returns-in-Ok-clause-within : goal.returns-in-Ok-clause-within
returns-in-Ok-clause-within g c =
    within_all c.args.pool.now c.args.main.now c.run_crew.new.hand c.collect_rest.new.main c.requires.seat c.requires.fresh.0 c.in-Ok.ensures.run.mails.3 c.collect_rest.ensures.within

pub returns-in-Err-clause-within : goal.returns-in-Err-clause-within
returns-in-Err-clause-within g c =
    within_all c.args.pool.now c.args.main.now c.run_crew.new.hand c.collect_rest-in-Err.new.main c.requires.seat c.requires.fresh.0
    (gone_same (IsWorkersAnswer g.N.Allows.allows) c.args.plan c.forks-forks.result c.in-Err.stopped.1.items c.in-Err.stopped.0 c.args.main.now c.run_crew.new.hand c.in-Err.ensures.stopped.lost).2 c.collect_rest-in-Err.ensures.within

pub returns-in-Err-clause-cut : goal.returns-in-Err-clause-cut
returns-in-Err-clause-cut g c =
    subst (λ (k : ℕ). IsCut c.args.plan k c.in-Err.stopped.1.items (g.W.LineOut.taken c.args.writer.now) (g.W.LineOut.taken c.run_crew.new.writer)) c.forks-forks.ensures.is c.in-Err.ensures.stopped.cut

pub returns-in-Err-clause-failed : goal.returns-in-Err-clause-failed
returns-in-Err-clause-failed g c = c.in-Err.ensures.stopped.failed

pub returns-in-Err-clause-opened : goal.returns-in-Err-clause-opened
returns-in-Err-clause-opened g c = c.in-Err.ensures.stopped.opened

pub returns-in-Ok-clause-quiet : goal.returns-in-Ok-clause-quiet
returns-in-Ok-clause-quiet g c = c.in-Ok.ensures.run.quiet

pub returns-in-Err-clause-seat : goal.returns-in-Err-clause-seat
returns-in-Err-clause-seat g c =
    c.collect_rest-in-Err.ensures.seat
    ∙ (gone_same (IsWorkersAnswer g.N.Allows.allows) c.args.plan c.forks-forks.result c.in-Err.stopped.1.items c.in-Err.stopped.0 c.args.main.now c.run_crew.new.hand c.in-Err.ensures.stopped.lost).0
