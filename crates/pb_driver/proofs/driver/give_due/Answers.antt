use Rattle.pb_driver.proofs.Commanding.{commands_more}
use Rattle.pb_driver.proofs.Obeying.{along_given}
use Rattle.pb_driver.proofs.driver.give_due.Goals as goal

pub commands-preserved : goal.commands-preserved
commands-preserved c = record {
  taken = commands_more c.args.engine.now c.commands.engine c.give.new.engine c.in-Some.given c.give.ensures.run c.commands.invariant.taken c.in_ok-give.ensures.taken c.in_ok-give.ensures.refused;
  along = along_given c.args.commands.now c.commands.cursor c.commands.engine c.give.new.engine c.in-Some.given c.commands.invariant.along c.in-Some.ensures.next c.in-Some.ensures.due c.in_ok-give.ensures.taken c.in_ok-give.ensures.refused;
}
