use Rattle.std.proofs.Common.{rules, inl, inr}
use Rattle.pb_driver.specs.Driven.{TakesAtMost}
use Rattle.pb_driver.proofs.Driving.{takes_own}
use Rattle.pb_driver.proofs.Turning.{off_one, off_same, on_one, on_same, stands_one, stands_same}
use Rattle.pb_driver.proofs.driver.take_one.Goals as goal

pub advance-requires : goal.advance-requires
advance-requires g c = c.requires.since

pub returns-in_err-more-clause-off : goal.returns-in_err-more-clause-off
returns-in_err-more-clause-off g c =
    let off = off_same (g.C.Crew.answers c.args.desk.now.crew.now) g.C.Crew.went c.args.engine.now c.advance.new.engine c.args.hand.now c.advance.new.hand (g.W.LineOut.taken c.args.writer.now) (g.W.LineOut.failures c.args.writer.now) _ c.requires.begun c.in_err-more.ensures.err c.advance.ensures.run c.in_err-more.ensures.lost c.in_err-more.ensures.fault in
    search (rules, off)

pub returns-in_err-more-clause-most : goal.returns-in_err-more-clause-most
returns-in_err-more-clause-most g c =
    let most : TakesAtMost c.args.engine.now c.advance.new.engine = inl c.in_err-more.ensures.err in
    search (rules, most)

pub returns-in_err-emit-clause-off : goal.returns-in_err-emit-clause-off
returns-in_err-emit-clause-off g c =
    let one = c.advance.ensures.took (search rules) in
    let off = off_one (g.C.Crew.answers c.args.desk.now.crew.now) g.C.Crew.went c.args.engine.now c.advance.new.engine c.args.hand.now c.advance.new.hand (g.W.LineOut.taken c.args.writer.now) (g.W.LineOut.taken c.emit.new.writer) (g.W.LineOut.failures c.args.writer.now) (g.W.LineOut.failures c.emit.new.writer) _ c.requires.since.run c.advance.ensures.run c.requires.begun one c.in_ok-more.ensures.went
    c.in_err-emit.ensures.part c.in_err-emit.ensures.failed c.in_err-emit.ensures.opened in
    search (rules, off)

pub returns-in_err-emit-clause-most : goal.returns-in_err-emit-clause-most
returns-in_err-emit-clause-most g c =
    let one = c.advance.ensures.took (search rules) in
    let most : TakesAtMost c.args.engine.now c.advance.new.engine = inr (takes_own (g.C.Crew.answers c.args.desk.now.crew.now) c.args.engine.now c.advance.new.engine one) in
    search (rules, most)

pub returns-clause-stands : goal.returns-clause-stands
returns-clause-stands g c =
    stands_one (g.C.Crew.answers c.args.desk.now.crew.now) (g.C.Crew.fits c.args.desk.now.crew.now c.advance.new.hand) c.args.engine.now c.advance.new.engine c.requires.since.run c.requires.begun (c.advance.ensures.took (search rules)) c.in_ok-more.ensures.since

pub returns-clause-on : goal.returns-clause-on
returns-clause-on g c =
    on_one g.C.Crew.went (g.C.Crew.answers c.args.desk.now.crew.now) c.args.engine.now c.advance.new.engine c.args.hand.now c.advance.new.hand (g.W.LineOut.taken c.args.writer.now) (g.W.LineOut.taken c.emit.new.writer) (g.W.LineOut.failures c.args.writer.now) (g.W.LineOut.failures c.emit.new.writer) c.requires.since.run c.advance.ensures.run (c.advance.ensures.took (search rules)) c.in_ok-more.ensures.went
    c.in_ok-emit.ensures.took c.in_ok-emit.ensures.quiet

pub returns-clause-own : goal.returns-clause-own
returns-clause-own g c = λ same. (takes_own (g.C.Crew.answers c.args.desk.now.crew.now) c.args.engine.now c.advance.new.engine (c.advance.ensures.took (search rules)), c.advance.ensures.work (search rules))

pub returns-then-not-more-clause-stands : goal.returns-then-not-more-clause-stands
returns-then-not-more-clause-stands g c =
    stands_same (g.C.Crew.answers c.args.desk.now.crew.now) (g.C.Crew.fits c.args.desk.now.crew.now c.advance.new.hand) c.args.engine.now c.advance.new.engine c.requires.begun (c.advance.ensures.over (search rules)).0 c.in_ok-more.ensures.since

pub returns-then-not-more-clause-on : goal.returns-then-not-more-clause-on
returns-then-not-more-clause-on g c =
    on_same g.C.Crew.went c.args.engine.now c.advance.new.engine c.args.hand.now c.advance.new.hand (g.W.LineOut.taken c.args.writer.now) (g.W.LineOut.failures c.args.writer.now) (c.advance.ensures.over (search rules)).0 c.advance.ensures.run c.in_ok-more.ensures.went

pub returns-then-not-more-clause-over : goal.returns-then-not-more-clause-over
returns-then-not-more-clause-over g c = λ same. c.advance.ensures.over (search rules)
