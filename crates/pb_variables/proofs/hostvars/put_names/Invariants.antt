use Rattle.std.proofs.Common.{◌≡◌, drop}
use Rattle.pb_value.specs.Datum.{named}
use Rattle.pb_variables.specs.Between.{put_names}
use Rattle.pb_variables.proofs.hostvars.put_names.Given as goal

abbrev pub invariant-loop-entry : goal.invariant-loop-entry
invariant-loop-entry l = put_names l.extra l.set (named (drop l.entry-index l.log)) l.variables ≡ put_names l.extra l.set (named l.log) l.fn.variables
