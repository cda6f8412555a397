use Rattle.std.proofs.Common.{◌≡◌, drop}
use Rattle.std.specs.Prelude.{None}
use Rattle.pb_state.specs.Learners.{rises}
use Rattle.pb_state.proofs.hostvars.rises.Given as goal

abbrev pub invariant-loop-entry : goal.invariant-loop-entry
invariant-loop-entry l = rises l.last (drop l.entry-index l.log) ≡ rises None l.log
