use Rattle.std.proofs.Common.{subst, sym}
use Rattle.pb_facts.specs.Update.{IsBetween}
use Rattle.pb_host.specs.Host.{HostOf}
use Rattle.pb_host.proofs.host.Host.finish.Goals as goal

pub returns-in_ok-past-in-Ok-clause-past : goal.returns-in_ok-past-in-Ok-clause-past
returns-in_ok-past-in-Ok-clause-past c =
    subst (λ (row : HostOf). IsBetween c.in_ok-past-in-Ok.past c.args.self.now.facts row.facts) (sym c.record_end-gone.ensures.row) c.in_ok-past-in-Ok.ensures.past
