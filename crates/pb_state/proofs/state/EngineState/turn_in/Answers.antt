use Rattle.std.proofs.Common.{ap, subst, sym}
use Rattle.pb_hosts.specs.Applied.{LearnInTurn}
use Rattle.pb_state.specs.Machine.{learnt_by}
use Rattle.pb_state.specs.State.{State}
use Rattle.pb_state.proofs.Idle.{turn_idle}
use Rattle.pb_state.proofs.InTurn.{nobody_learnt}
use Rattle.pb_state.proofs.state.EngineState.turn_in.Goals as goal

pub turn_hosts-requires-clause-idle : goal.turn_hosts-requires-clause-idle
turn_hosts-requires-clause-idle c = turn_idle c.args.self.now c.args.play.now c.requires.may

pub returns-in-Some-clause-learnt : goal.returns-in-Some-clause-learnt
returns-in-Some-clause-learnt c =
    subst (λ (s : State). LearnInTurn c.in_ok-learnt.learnt.items (learnt_by c.args.self.now.rows) (learnt_by s.rows)) (sym c.move_on.ensures) c.in_ok-learnt.ensures.learnt

pub returns-clause-learnt : goal.returns-clause-learnt
returns-clause-learnt c =
    nobody_learnt c.new.result.items (learnt_by c.args.self.now.rows) (learnt_by c.move_on-2.new.self.rows) c.new.ensures.items (ap (λ (s : State). learnt_by s.rows) (sym c.move_on-2.ensures))
