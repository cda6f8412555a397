-- What a row of the program's table of arguments says of the argument.
use Rattle.std.specs.Prelude.{Option, Some, None}
use Rattle.clap.specs.Words.{Rule, new_rule}
use Rattle.clap.specs.declared.builder.action.ArgAction.TheVariants.{SetTrue}
use Rattle.pb_command_line.specs.declared.arguments.Row.{Row}
use Rattle.pb_command_line.specs.declared.arguments.Written.{Written}
use Rattle.pb_command_line.specs.declared.arguments.Written.TheVariants.{Letter, Name, Position}

-- it takes one value, or it is a flag
abbrev pub taking : {X : Type 0} → Option X → Rule → Rule
taking (Some name) rule = record rule { value_names = 1 }
taking None rule = record rule { action = Some SetTrue }

-- it is written as `-x`, as `--name` or at its position
abbrev pub written_as : Written → Rule → Rule
written_as (Letter letter) rule = record rule { short = Some letter }
written_as (Name name) rule = record rule { long = Some name.now }
written_as Position rule = rule

abbrev pub rule_of_row : Row → Rule
rule_of_row row = written_as row.written (taking row.value (record (new_rule row.id.now) { required = row.is_required }))
