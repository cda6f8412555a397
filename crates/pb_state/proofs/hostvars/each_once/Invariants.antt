use Rattle.std.proofs.Common.{◌≡◌, drop}
use Rattle.pb_state.specs.Learners.{each_once}
use Rattle.pb_state.proofs.hostvars.each_once.Given as goal

abbrev pub invariant-loop-at : goal.invariant-loop-at
invariant-loop-at l = each_once (drop l.at l.log) ≡ each_once l.log
