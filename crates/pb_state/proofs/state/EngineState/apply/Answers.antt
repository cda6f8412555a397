use Rattle.std.proofs.Common.{refl}
use Rattle.pb_state.specs.declared.event.Event.TheVariants.{Open, Send, Close, Stop, Forks}
use Rattle.pb_state.proofs.PutRight.{quiet_learns}
use Rattle.pb_state.proofs.state.EngineState.apply.Goals as goal

pub returns-in_ok-open-in-Open-clause-learnt : goal.returns-in_ok-open-in-Open-clause-learnt
returns-in_ok-open-in-Open-clause-learnt c = quiet_learns c.args.plan.now c.args.self.now c.open.new.self Open c.new.result.items refl c.in_ok-open-in-Open.ensures.ok c.new.ensures.items

pub returns-in_ok-send-in-Send-clause-learnt : goal.returns-in_ok-send-in-Send-clause-learnt
returns-in_ok-send-in-Send-clause-learnt c =
    quiet_learns c.args.plan.now c.args.self.now c.send.new.self (Send c.in-Send.host c.in-Send.item c.in-Send.attempt c.in-Send.ticket) c.new-in-Send.result.items refl c.in_ok-send-in-Send.ensures.ok c.new-in-Send.ensures.items

pub returns-in-Close-clause-learnt : goal.returns-in-Close-clause-learnt
returns-in-Close-clause-learnt c = quiet_learns c.args.plan.now c.args.self.now c.close.new.self Close c.new-in-Close.result.items refl c.close.ensures c.new-in-Close.ensures.items

pub returns-in-Stop-clause-learnt : goal.returns-in-Stop-clause-learnt
returns-in-Stop-clause-learnt c = quiet_learns c.args.plan.now c.args.self.now c.stop.new.self Stop c.stop.result.items refl c.stop.ensures.ok c.stop.ensures.learnt

pub returns-in-Forks-clause-learnt : goal.returns-in-Forks-clause-learnt
returns-in-Forks-clause-learnt c =
    quiet_learns c.args.plan.now c.args.self.now c.set_forks.new.self (Forks c.in-Forks.forks) c.set_forks.result.items refl c.set_forks.ensures.ok c.set_forks.ensures.learnt
