use Rattle.std.proofs.Common.{subst, sym}
use Rattle.pb_facts.specs.Update.{IsBetween}
use Rattle.pb_host.specs.Host.{HostOf}
use Rattle.pb_host.proofs.host.Host.apply_and_answer.Goals as goal

pub returns-clause-past : goal.returns-clause-past
returns-clause-past c = subst (λ (row : HostOf). IsBetween c.in_ok-past.past c.args.self.now.facts row.facts) (sym c.answer.ensures) c.in_ok-past.ensures.between
