use Rattle.std.proofs.Common.{◌-◌, length}
use Rattle.pb_driver.specs.Commanded.{IsAlong}
use Rattle.pb_driver.specs.Driven.{TakesCommands}
use Rattle.pb_driver.proofs.driver.give_due.Given as goal

abbrev pub invariant-commands : goal.invariant-commands
invariant-commands l = record {
  taken : TakesCommands l.fn.engine l.engine;
  along : IsAlong l.commands l.cursor l.engine;
}

abbrev pub decreases-commands : goal.decreases-commands
decreases-commands l = length l.commands - l.cursor.given
