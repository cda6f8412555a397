use Rattle.std.proofs.Common.{◌≡◌, true, take}
use Rattle.pb_audit.proofs.auditing.replay.Given as goal
use Rattle.pb_audit.specs.Audit.{is_legal_under, end_under}
use Rattle.pb_state.specs.Known.{IsKnown}

abbrev pub invariant-loop-step : goal.invariant-loop-step
invariant-loop-step l = record {
  legal : is_legal_under l.plan l.forks (take l.step l.trail) ≡ true;
  state : l.state ≡ end_under l.plan l.forks (take l.step l.trail);
  known : IsKnown l.plan l.state l.known;
}
