use Rattle.std.proofs.Common.{refl}
use Rattle.pb_state.specs.Machine.{learnt_by}
use Rattle.pb_state.proofs.InTurn.{nobody_learnt}
use Rattle.pb_state.proofs.state.EngineState.report.Goals as goal

pub returns-in-None-clause-learnt : goal.returns-in-None-clause-learnt
returns-in-None-clause-learnt c = nobody_learnt c.new.result.items (learnt_by c.args.self.now.rows) (learnt_by c.args.self.now.rows) c.new.ensures.items refl
