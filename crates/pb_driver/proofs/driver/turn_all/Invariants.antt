use Rattle.pb_state.specs.Work.{work}
use Rattle.pb_driver.specs.Commanded.{IsAlong}
use Rattle.pb_driver.specs.Turning.{GoesOn, Stands}
use Rattle.pb_driver.proofs.driver.turn_all.Given as goal

abbrev pub invariant-turns : goal.invariant-turns
invariant-turns g l = record {
  stands : Stands (g.C.Crew.answers l.desk.crew.now) (g.C.Crew.fits l.desk.crew.now l.hand) l.engine;
  along : IsAlong l.desk.commands.now l.cursor l.engine;
  on : GoesOn g.C.Crew.went l.fn.engine l.engine l.fn.hand l.hand (g.W.LineOut.taken l.fn.writer) (g.W.LineOut.taken l.writer) (g.W.LineOut.failures l.fn.writer) (g.W.LineOut.failures l.writer);
}

abbrev pub decreases-turns : goal.decreases-turns
decreases-turns g l = work l.engine.plan l.engine.state
