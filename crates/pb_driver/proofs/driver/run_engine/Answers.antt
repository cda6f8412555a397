use Rattle.std.proofs.Common.{rules}
use Rattle.pb_driver.proofs.Obeying.{along_first}
use Rattle.pb_driver.proofs.Turning.{counted_as, runs_out, stands_fresh, to_end, to_start, to_turns}
use Rattle.pb_driver.proofs.driver.run_engine.Goals as goal

pub turn_all-requires-clause-stands : goal.turn_all-requires-clause-stands
turn_all-requires-clause-stands g c = stands_fresh (g.C.Crew.answers c.args.desk.now.crew.now) (g.C.Crew.fits c.args.desk.now.crew.now c.args.hand.now) c.args.engine.now c.requires.fresh c.requires.sound c.requires.fits

pub turn_all-requires-clause-along : goal.turn_all-requires-clause-along
turn_all-requires-clause-along g c = along_first c.args.desk.now.commands.now c.args.engine.now c.requires.fresh

pub returns-in_err-emit_start-clause-stopped : goal.returns-in_err-emit_start-clause-stopped
returns-in_err-emit_start-clause-stopped g c =
    let stopped = to_start (g.C.Crew.answers c.args.desk.now.crew.now) g.C.Crew.went c.args.desk.now.commands.now c.args.engine.now c.args.hand.now (g.W.LineOut.taken c.args.writer.now) (g.W.LineOut.taken c.emit_start.new.writer) (g.W.LineOut.failures c.args.writer.now) (g.W.LineOut.failures c.emit_start.new.writer) _ c.requires.fresh (g.met.C.Crew.went_none c.args.hand.now) c.in_err-emit_start.ensures.part c.in_err-emit_start.ensures.failed c.in_err-emit_start.ensures.opened in
    search (rules, stopped)

pub returns-in_err-turn_all-clause-stopped : goal.returns-in_err-turn_all-clause-stopped
returns-in_err-turn_all-clause-stopped g c =
    let stopped = to_turns (g.C.Crew.answers c.args.desk.now.crew.now) g.C.Crew.went c.args.desk.now.commands.now c.args.engine.now c.turn_all.new.engine c.args.hand.now c.turn_all.new.hand (g.W.LineOut.taken c.args.writer.now) (g.W.LineOut.taken c.emit_start.new.writer) (g.W.LineOut.taken c.turn_all.new.writer) (g.W.LineOut.failures c.args.writer.now) (g.W.LineOut.failures c.emit_start.new.writer) (g.W.LineOut.failures c.turn_all.new.writer) _ c.requires.fresh (g.met.C.Crew.went_none c.args.hand.now) c.in_ok-emit_start.ensures.took c.in_ok-emit_start.ensures.quiet
    c.in_err-turn_all.ensures.off c.in_err-turn_all.ensures.front in
    search (rules, stopped)

pub returns-in_err-recap-clause-stopped : goal.returns-in_err-recap-clause-stopped
returns-in_err-recap-clause-stopped g c =
    let stopped = to_end (g.C.Crew.answers c.args.desk.now.crew.now) g.C.Crew.went c.args.desk.now.commands.now (g.C.Crew.fits c.args.desk.now.crew.now c.turn_all.new.hand) c.args.engine.now c.turn_all.new.engine c.args.hand.now c.turn_all.new.hand (g.W.LineOut.taken c.args.writer.now) (g.W.LineOut.taken c.emit_start.new.writer) (g.W.LineOut.taken c.turn_all.new.writer) (g.W.LineOut.taken c.end_run.new.writer) (g.W.LineOut.failures c.args.writer.now) (g.W.LineOut.failures c.emit_start.new.writer) (g.W.LineOut.failures c.turn_all.new.writer) (g.W.LineOut.failures c.end_run.new.writer) _ c.requires.fresh (g.met.C.Crew.went_none c.args.hand.now) c.in_ok-emit_start.ensures.took
    c.in_ok-emit_start.ensures.quiet c.in_ok-turn_all.ensures.on c.in_ok-turn_all.ensures.stands c.in_ok-turn_all.ensures.over c.in_ok-turn_all.ensures.obeyed
    c.in_err-recap.ensures.part c.in_err-recap.ensures.failed c.in_err-recap.ensures.opened in
    search (rules, stopped)

pub returns-clause-run : goal.returns-clause-run
returns-clause-run g c =
    runs_out (g.C.Crew.answers c.args.desk.now.crew.now) g.C.Crew.went c.args.desk.now.commands.now (g.C.Crew.fits c.args.desk.now.crew.now c.turn_all.new.hand) c.args.engine.now c.turn_all.new.engine c.args.hand.now c.turn_all.new.hand (g.W.LineOut.taken c.args.writer.now) (g.W.LineOut.taken c.emit_start.new.writer) (g.W.LineOut.taken c.turn_all.new.writer) (g.W.LineOut.taken c.end_run.new.writer) (g.W.LineOut.failures c.args.writer.now) (g.W.LineOut.failures c.emit_start.new.writer) (g.W.LineOut.failures c.turn_all.new.writer) (g.W.LineOut.failures c.end_run.new.writer) c.in_ok-recap.recap c.requires.fresh (g.met.C.Crew.went_none c.args.hand.now) c.in_ok-emit_start.ensures.took
    c.in_ok-emit_start.ensures.quiet c.in_ok-turn_all.ensures.on c.in_ok-turn_all.ensures.stands c.in_ok-turn_all.ensures.over c.in_ok-turn_all.ensures.obeyed
    c.in_ok-recap.ensures.took c.in_ok-recap.ensures.recap c.in_ok-recap.ensures.quiet

pub returns-clause-recap : goal.returns-clause-recap
returns-clause-recap g c = counted_as c.args.engine.now c.turn_all.new.engine c.in_ok-recap.recap c.in_ok-turn_all.ensures.on.same c.in_ok-recap.ensures.recap
