use Rattle.std.proofs.Common.{◌≡◌, ◌++◌}
use Rattle.pb_value.specs.Datum.{named}
use Rattle.pb_layers.specs.Scope.{Map}
use Rattle.pb_facts.specs.Facts.{put_all}
use Rattle.pb_facts.proofs.put.put_all.Given as goal

abbrev pub invariant-loop-name : goal.invariant-loop-name
invariant-loop-name l = (done : Map) × (done ++ named l.name-iterator ≡ l.entries) × (l.known ≡ put_all done l.fn.known)
