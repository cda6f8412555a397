use Rattle.std.proofs.Common.{rules}
use Rattle.pb_driver.proofs.Commanding.{less_behind}
use Rattle.pb_driver.proofs.Obeying.{along_as, along_own, obeyed_most, obeyed_to, own_counts}
use Rattle.pb_driver.proofs.Turning.{ended_as, off_both, off_commanded, on_both, on_commanded, stands_commanded}
use Rattle.pb_driver.proofs.driver.turn.Goals as goal

pub give_due-requires-clause-sound : goal.give_due-requires-clause-sound
give_due-requires-clause-sound g c = c.requires.stands.since.run

pub take_one-requires : goal.take_one-requires
take_one-requires g c = stands_commanded (g.C.Crew.answers c.args.desk.now.crew.now) (g.C.Crew.fits c.args.desk.now.crew.now c.args.hand.now) c.args.engine.now c.give_due.new.engine c.give_due.ensures.commanded c.requires.stands

pub count-requires : goal.count-requires
count-requires g c = own_counts c.args.desk.now.commands.now c.give_due.new.cursor c.give_due.new.engine c.take_one.new.engine c.give_due.ensures.along (c.take_one.ensures.own (search rules)).0

pub returns-in_err-give_due-clause-off : goal.returns-in_err-give_due-clause-off
returns-in_err-give_due-clause-off g c =
    let off = off_commanded (g.C.Crew.answers c.args.desk.now.crew.now) g.C.Crew.went c.args.engine.now c.give_due.new.engine c.args.hand.now (g.W.LineOut.taken c.args.writer.now) (g.W.LineOut.failures c.args.writer.now) _ c.requires.stands.begun c.give_due.ensures.commanded c.in_err-give_due.ensures.fault in
    search (rules, off)

pub returns-in_err-give_due-clause-front : goal.returns-in_err-give_due-clause-front
returns-in_err-give_due-clause-front g c =
    let front = obeyed_to c.args.desk.now.commands.now c.give_due.new.cursor c.give_due.new.engine c.give_due.ensures.along in
    search (rules, front)

pub returns-in_err-more-clause-off : goal.returns-in_err-more-clause-off
returns-in_err-more-clause-off g c =
    let off = off_both (g.C.Crew.answers c.args.desk.now.crew.now) g.C.Crew.went c.args.engine.now c.give_due.new.engine c.take_one.new.engine c.args.hand.now c.args.hand.now c.take_one.new.hand (g.W.LineOut.taken c.args.writer.now) (g.W.LineOut.taken c.args.writer.now) (g.W.LineOut.taken c.take_one.new.writer) (g.W.LineOut.failures c.args.writer.now) (g.W.LineOut.failures c.args.writer.now) (g.W.LineOut.failures c.take_one.new.writer) _ (on_commanded g.C.Crew.went c.args.engine.now c.give_due.new.engine c.args.hand.now (g.W.LineOut.taken c.args.writer.now) (g.W.LineOut.failures c.args.writer.now) c.give_due.ensures.commanded) c.in_err-more.ensures.off in
    search (rules, off)

pub returns-in_err-more-clause-front : goal.returns-in_err-more-clause-front
returns-in_err-more-clause-front g c =
    let front = obeyed_most c.args.desk.now.commands.now c.give_due.new.cursor c.give_due.new.engine c.take_one.new.engine c.give_due.ensures.along c.in_ok-give_due.ensures.none c.in_err-more.ensures.most in
    search (rules, front)

pub returns-then-more-clause-along : goal.returns-then-more-clause-along
returns-then-more-clause-along g c =
    along_own c.args.desk.now.commands.now c.give_due.new.cursor c.count.new.cursor c.give_due.new.engine c.take_one.new.engine c.give_due.ensures.along c.in_ok-give_due.ensures.none (c.take_one.ensures.own (search rules)).0 c.count.ensures

pub returns-then-more-clause-on : goal.returns-then-more-clause-on
returns-then-more-clause-on g c =
    on_both g.C.Crew.went c.args.engine.now c.give_due.new.engine c.take_one.new.engine c.args.hand.now c.args.hand.now c.take_one.new.hand (g.W.LineOut.taken c.args.writer.now) (g.W.LineOut.taken c.args.writer.now) (g.W.LineOut.taken c.take_one.new.writer) (g.W.LineOut.failures c.args.writer.now) (g.W.LineOut.failures c.args.writer.now) (g.W.LineOut.failures c.take_one.new.writer) (on_commanded g.C.Crew.went c.args.engine.now c.give_due.new.engine c.args.hand.now (g.W.LineOut.taken c.args.writer.now) (g.W.LineOut.failures c.args.writer.now) c.give_due.ensures.commanded) c.in_ok-more.ensures.on

pub returns-then-more-clause-less : goal.returns-then-more-clause-less
returns-then-more-clause-less g c = λ same.
    less_behind c.args.engine.now c.give_due.new.engine c.take_one.new.engine c.requires.stands.since.run c.give_due.ensures.commanded (c.take_one.ensures.own (search rules)).1

pub returns-else-more-clause-along : goal.returns-else-more-clause-along
returns-else-more-clause-along g c = along_as c.args.desk.now.commands.now c.give_due.new.cursor c.give_due.new.engine c.take_one.new.engine c.give_due.ensures.along (c.take_one.ensures.over (search rules)).0

pub returns-else-more-clause-on : goal.returns-else-more-clause-on
returns-else-more-clause-on g c =
    on_both g.C.Crew.went c.args.engine.now c.give_due.new.engine c.take_one.new.engine c.args.hand.now c.args.hand.now c.take_one.new.hand (g.W.LineOut.taken c.args.writer.now) (g.W.LineOut.taken c.args.writer.now) (g.W.LineOut.taken c.take_one.new.writer) (g.W.LineOut.failures c.args.writer.now) (g.W.LineOut.failures c.args.writer.now) (g.W.LineOut.failures c.take_one.new.writer) (on_commanded g.C.Crew.went c.args.engine.now c.give_due.new.engine c.args.hand.now (g.W.LineOut.taken c.args.writer.now) (g.W.LineOut.failures c.args.writer.now) c.give_due.ensures.commanded) c.in_ok-more.ensures.on

pub returns-else-more-clause-over : goal.returns-else-more-clause-over
returns-else-more-clause-over g c = λ same.
    let over = c.take_one.ensures.over (search rules) in
    (ended_as c.give_due.new.engine c.take_one.new.engine over.0 over.1, c.in_ok-give_due.ensures.none)
