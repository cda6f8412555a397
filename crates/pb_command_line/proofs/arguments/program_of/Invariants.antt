use Rattle.std.proofs.Common.{◌≡◌, drop, map, codes}
use Rattle.clap.specs.Words.{app_of, new_app}
use Rattle.pb_command_line.specs.CommandLine.{with_rules}
use Rattle.pb_command_line.specs.Table.{rule_of_row}
use Rattle.pb_command_line.proofs.arguments.program_of.Given as goal

abbrev pub invariant-loop-row : goal.invariant-loop-row
invariant-loop-row l = with_rules (new_app (codes "pb-play")) (map rule_of_row l.rows) ≡ with_rules (app_of l.command) (map rule_of_row (drop l.row-index l.rows))
