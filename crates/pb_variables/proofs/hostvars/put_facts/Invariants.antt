use Rattle.std.proofs.Common.{◌≡◌, drop}
use Rattle.pb_value.specs.Datum.{named}
use Rattle.pb_facts.specs.Facts.{gathered_layer}
use Rattle.pb_variables.specs.Between.{put_facts}
use Rattle.pb_variables.proofs.hostvars.put_facts.Given as goal

abbrev pub invariant-loop-entry : goal.invariant-loop-entry
invariant-loop-entry l =
    put_facts l.extra l.facts.set (gathered_layer l.facts.gathered) (named (drop l.entry-index l.log)) l.variables ≡ put_facts l.extra l.facts.set (gathered_layer l.facts.gathered) (named l.log) l.fn.variables
