-- A front of the recap is written behind the whole line of the statistics.
use Rattle.std.proofs.Common.{rules}
use Rattle.pb_recap.specs.Stats.{stats_line}
use Rattle.pb_recap.specs.Text.{recap_text}
use Rattle.pb_driver.proofs.Cutting.{part_behind}
use Rattle.pb_driver.proofs.emitting.emit_end.Goals as goal

pub returns-in_err-emit_recap-clause-part : goal.returns-in_err-emit_recap-clause-part
returns-in_err-emit_recap-clause-part g c =
    let hosts = c.args.engine.now.plan.inventory.hosts in
    let part = part_behind (g.W.LineOut.taken c.args.writer.now) (g.W.LineOut.taken c.emit_stats.new.writer) (g.W.LineOut.taken c.emit_recap.new.writer) (stats_line hosts c.args.recap.now) (recap_text hosts c.args.recap.now) c.in_ok-emit_stats.ensures.took c.in_err-emit_recap.ensures.part in
    search (rules, part)
