use Rattle.std.proofs.Common.{◌≡◌, ◌++◌, ◌-◌, length, drop, map}
use Rattle.pb_value.specs.Datum.{text}
use Rattle.pb_events.specs.Batch.{batch_names}
use Rattle.pb_events.proofs.batch.batch_names.Given as goal

abbrev pub invariant-loop-host : goal.invariant-loop-host
invariant-loop-host l = l.names ++ map text (batch_names (drop l.from l.plan.inventory.hosts) (drop l.from l.state.rows)) ≡ map text (batch_names l.plan.inventory.hosts l.state.rows)

abbrev pub decreases-loop-host : goal.decreases-loop-host
decreases-loop-host l = length l.hosts - l.from
