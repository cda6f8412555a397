use Rattle.std.proofs.Common.{drop}
use Rattle.pb_state.specs.Machine.{learnt_by}
use Rattle.pb_state.proofs.InTurn.{IsOnWay}
use Rattle.pb_state.proofs.hostvars.renewed_in_turn.Given as goal

abbrev pub invariant-loop-one : goal.invariant-loop-one
invariant-loop-one l = IsOnWay l.plan.inventory l.plan.extra (learnt_by l.rows) l.log l.fn.hosts (drop l.one-index l.log) l.known
