use Rattle.std.proofs.Common.{rules, ap, List}
use Rattle.pb_host.specs.declared.host.Counts.{Counts}
use Rattle.pb_recap.specs.Recap.{recap}
use Rattle.pb_driver.specs.Output.{end_lines}
use Rattle.pb_driver.proofs.Cutting.{part_as}
use Rattle.pb_driver.proofs.emitting.end_run.Goals as goal

pub returns-clause-recap : goal.returns-clause-recap
returns-clause-recap g c =
    let engine = c.args.engine.now in
    c.in_ok-recap.ensures.scratch engine.plan engine.pool engine.trail (rw c.state.ensures.value c.state.ensures.run)

pub returns-in_err-emit_end-clause-part : goal.returns-in_err-emit_end-clause-part
returns-in_err-emit_end-clause-part g c =
    let engine = c.args.engine.now in
    let counted = c.in_ok-recap.ensures.scratch engine.plan engine.pool engine.trail (rw c.state.ensures.value c.state.ensures.run) in
    let part = part_as (g.W.LineOut.taken c.args.writer.now) (g.W.LineOut.taken c.emit_end.new.writer) (end_lines engine.plan c.in_ok-recap.recap) (end_lines engine.plan (recap engine.plan engine.pool engine.trail))
    (ap (λ (counts : List Counts). end_lines engine.plan counts) counted) c.in_err-emit_end.ensures.part in
    search (rules, part)
