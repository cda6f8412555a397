use Rattle.std.proofs.Common.{rules}
use Rattle.pb_forks.specs.Seats.{forks_of, main_view}
use Rattle.pb_driver.proofs.Handing.{closed_stopped}
use Rattle.pb_driver.proofs.threads.drive_if.Goals as goal

pub returns-then-not-started-clause-stopped : goal.returns-then-not-started-clause-stopped
returns-then-not-started-clause-stopped g c =
    rw c.new.ensures.items
    (closed_stopped g.N.Allows.allows c.args.plan (forks_of c.args.hall.now.pool.now) c.args.hall.now.commands.now (main_view c.args.main.now).log (g.W.LineOut.taken c.args.writer.now) (g.W.LineOut.failures c.args.writer.now) (c.requires.shut (search rules)).1)
