use Rattle.std.proofs.Common.{◌≡◌, ◌++◌, drop}
use Rattle.pb_variables.specs.Learnt.{facts_in}
use Rattle.pb_state.specs.Machine.{learnt_by}
use Rattle.pb_state.proofs.hostvars.learnt_in.Given as goal

abbrev pub invariant-loop-row : goal.invariant-loop-row
invariant-loop-row l = learnt_by l.rows ≡ facts_in l.learnt.items ++ learnt_by (drop l.row-index l.rows)
