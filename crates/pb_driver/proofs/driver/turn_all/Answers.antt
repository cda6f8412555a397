use Rattle.std.proofs.Common.{rules}
use Rattle.pb_driver.proofs.Obeying.{obeyed_end}
use Rattle.pb_driver.proofs.Turning.{off_both, on_both, on_none}
use Rattle.pb_driver.proofs.driver.turn_all.Goals as goal

pub turns-init : goal.turns-init
turns-init g c = record {
  stands = c.requires.stands;
  along = c.requires.along;
  on = on_none g.C.Crew.went c.args.engine.now c.args.hand.now (g.W.LineOut.taken c.args.writer.now) (g.W.LineOut.failures c.args.writer.now) c.requires.stands.since.run;
}

pub turns-preserved : goal.turns-preserved
turns-preserved g c = record {
  stands = c.in_ok-more.ensures.stands;
  along = c.in_ok-more.ensures.along;
  on = on_both g.C.Crew.went c.args.engine.now c.turns.engine c.turn.new.engine c.args.hand.now c.turns.hand c.turn.new.hand (g.W.LineOut.taken c.args.writer.now) (g.W.LineOut.taken c.turns.writer) (g.W.LineOut.taken c.turn.new.writer) (g.W.LineOut.failures c.args.writer.now) (g.W.LineOut.failures c.turns.writer) (g.W.LineOut.failures c.turn.new.writer) c.turns.invariant.on c.in_ok-more.ensures.on;
}

pub returns-in_err-more-clause-off : goal.returns-in_err-more-clause-off
returns-in_err-more-clause-off g c =
    let off = off_both (g.C.Crew.answers c.args.desk.now.crew.now) g.C.Crew.went c.args.engine.now c.turns.engine c.turn.new.engine c.args.hand.now c.turns.hand c.turn.new.hand (g.W.LineOut.taken c.args.writer.now) (g.W.LineOut.taken c.turns.writer) (g.W.LineOut.taken c.turn.new.writer) (g.W.LineOut.failures c.args.writer.now) (g.W.LineOut.failures c.turns.writer) (g.W.LineOut.failures c.turn.new.writer) _ c.turns.invariant.on c.in_err-more.ensures.off in
    search (rules, off)

pub returns-then-not-more-clause-on : goal.returns-then-not-more-clause-on
returns-then-not-more-clause-on g c = on_both g.C.Crew.went c.args.engine.now c.turns.engine c.turn.new.engine c.args.hand.now c.turns.hand c.turn.new.hand (g.W.LineOut.taken c.args.writer.now) (g.W.LineOut.taken c.turns.writer) (g.W.LineOut.taken c.turn.new.writer) (g.W.LineOut.failures c.args.writer.now) (g.W.LineOut.failures c.turns.writer) (g.W.LineOut.failures c.turn.new.writer) c.turns.invariant.on c.in_ok-more.ensures.on

pub returns-then-not-more-clause-over : goal.returns-then-not-more-clause-over
returns-then-not-more-clause-over g c = (c.turn.ensures.over (search rules)).0

pub returns-then-not-more-clause-obeyed : goal.returns-then-not-more-clause-obeyed
returns-then-not-more-clause-obeyed g c = obeyed_end c.args.desk.now.commands.now c.turn.new.cursor c.turn.new.engine c.in_ok-more.ensures.along (c.turn.ensures.over (search rules)).1
