use Rattle.std.proofs.Common.{◌≡◌, ◌++◌}
use Rattle.pb_value.specs.Datum.{named}
use Rattle.pb_facts.proofs.update.push_all.Given as goal

abbrev pub invariant-loop-name : goal.invariant-loop-name
invariant-loop-name l = named l.entries.items ++ named l.name-iterator ≡ named l.fn.entries.items ++ l.given
