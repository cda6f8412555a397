use Rattle.std.proofs.Common.{refl}
use Rattle.pb_command_line.proofs.arguments.rows.Goals as goal

pub returns : goal.returns
returns c = refl
