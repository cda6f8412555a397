use Rattle.std.proofs.Common.{◌∙◌, ap}
use Rattle.std.proofs.lemmas.List.{drop_more}
use Rattle.clap.specs.Words.{app_of, with_rule}
use Rattle.pb_command_line.proofs.Adding.{row_added}
use Rattle.pb_command_line.proofs.arguments.program_of.Goals as goal

pub loop-row-preserved : goal.loop-row-preserved
loop-row-preserved c =
    row_added _ _ _ _ _ _ c.loop-row.invariant (drop_more c.args.rows.now c.loop-row.row-index _ c.loop-row-test.true)
    (c.in_ok-command.ensures.shape c.argument.ensures.1 ∙ ap (with_rule (app_of c.loop-row.command)) c.argument.ensures.0)
