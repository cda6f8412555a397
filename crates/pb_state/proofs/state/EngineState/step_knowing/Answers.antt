use Rattle.std.proofs.Common.{◌≡◌, ◌∙◌, ◌<◌, true, List, ap, length, subst, sym}
use Rattle.pb_hosts.specs.Applied.{LearnInTurn}
use Rattle.pb_state.specs.Known.{IsKnown, keeps_facts}
use Rattle.pb_state.specs.Machine.{learnt_by}
use Rattle.pb_state.specs.State.{State}
use Rattle.pb_state.specs.Work.{work}
use Rattle.pb_state.proofs.InTurn.{Entry}
use Rattle.pb_state.proofs.KeepsFacts.{stays_known}
use Rattle.pb_state.proofs.Local.{is_local, moves_by_place}
use Rattle.pb_state.proofs.Steps.{forks_stay, hosts_stay}
use Rattle.pb_state.proofs.WorkFalls.{falls_if}
use Rattle.pb_state.proofs.state.EngineState.step_knowing.Goals as goal

pub returns-then-keeps-clause-known : goal.returns-then-keeps-clause-known
returns-then-keeps-clause-known c =
    let keeps : keeps_facts c.args.plan.now c.args.self.now c.args.event.now ≡ true = sym c.keeps_facts-keeps.ensures ∙ c.if-keeps.true in
    subst (λ (s : State). IsKnown c.args.plan.now s c.apply.new.known) (sym c.in_ok-learnt.ensures.ok)
    (stays_known c.args.plan.now c.args.self.now c.args.event.now c.apply.new.known keeps c.apply.ensures.known)

pub returns-clause-known : goal.returns-clause-known
returns-clause-known c =
    c.renew.ensures c.args.self.now
    (subst (λ (log : List Entry). LearnInTurn log (learnt_by c.args.self.now.rows) (learnt_by c.apply.new.self.rows)) (sym c.as_slice.ensures.value) c.in_ok-learnt.ensures.learnt) c.apply.ensures.known

pub returns-then-keeps-clause-hosts : goal.returns-then-keeps-clause-hosts
returns-then-keeps-clause-hosts c = ap (λ (s : State). length s.rows) c.in_ok-learnt.ensures.ok ∙ hosts_stay c.args.plan.now c.args.self.now c.args.event.now

pub returns-then-keeps-clause-local : goal.returns-then-keeps-clause-local
returns-then-keeps-clause-local c = is_local c.args.plan.now c.args.self.now c.apply.new.self c.args.event.now c.in_ok-learnt.ensures.ok

pub returns-then-keeps-clause-shared : goal.returns-then-keeps-clause-shared
returns-then-keeps-clause-shared c = moves_by_place c.args.plan.now c.args.self.now c.apply.new.self c.args.event.now c.in_ok-learnt.ensures.ok

pub returns-then-keeps-clause-work : goal.returns-then-keeps-clause-work
returns-then-keeps-clause-work c = λ some other.
    subst (λ (s : State). work c.args.plan.now s < work c.args.plan.now c.args.self.now) (sym c.in_ok-learnt.ensures.ok)
    (falls_if c.args.plan.now c.args.self.now c.args.event.now (sym c.is_possible.ensures ∙ c.if-not-is_possible.false) some other)

pub returns-then-keeps-clause-forks : goal.returns-then-keeps-clause-forks
returns-then-keeps-clause-forks c = λ some.
    subst (λ (s : State). 0 < s.forks) (sym c.in_ok-learnt.ensures.ok)
    (forks_stay c.args.plan.now c.args.self.now c.args.event.now (sym c.is_possible.ensures ∙ c.if-not-is_possible.false) some)

pub returns-clause-hosts : goal.returns-clause-hosts
returns-clause-hosts c = ap (λ (s : State). length s.rows) c.in_ok-learnt.ensures.ok ∙ hosts_stay c.args.plan.now c.args.self.now c.args.event.now

pub returns-clause-local : goal.returns-clause-local
returns-clause-local c = is_local c.args.plan.now c.args.self.now c.apply.new.self c.args.event.now c.in_ok-learnt.ensures.ok

pub returns-clause-shared : goal.returns-clause-shared
returns-clause-shared c = moves_by_place c.args.plan.now c.args.self.now c.apply.new.self c.args.event.now c.in_ok-learnt.ensures.ok

pub returns-clause-work : goal.returns-clause-work
returns-clause-work c = λ some other.
    subst (λ (s : State). work c.args.plan.now s < work c.args.plan.now c.args.self.now) (sym c.in_ok-learnt.ensures.ok)
    (falls_if c.args.plan.now c.args.self.now c.args.event.now (sym c.is_possible.ensures ∙ c.if-not-is_possible.false) some other)

pub returns-clause-forks : goal.returns-clause-forks
returns-clause-forks c = λ some.
    subst (λ (s : State). 0 < s.forks) (sym c.in_ok-learnt.ensures.ok)
    (forks_stay c.args.plan.now c.args.self.now c.args.event.now (sym c.is_possible.ensures ∙ c.if-not-is_possible.false) some)
