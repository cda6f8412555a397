use Rattle.std.proofs.Common.{refl}
use Rattle.pb_state.specs.Machine.{learnt_by}
use Rattle.pb_state.proofs.InTurn.{nobody_learnt}
use Rattle.pb_state.proofs.state.EngineState.start.Goals as goal

pub returns-in_default-clause-learnt : goal.returns-in_default-clause-learnt
returns-in_default-clause-learnt c = nobody_learnt c.new.result.items (learnt_by c.args.self.now.rows) (learnt_by c.args.self.now.rows) c.new.ensures.items refl
