use Rattle.std.proofs.Common.{subst}
use Rattle.std.specs.Prelude.{IfSome}
use Rattle.pb_facts.specs.Facts.{FactsOf}
use Rattle.pb_variables.specs.Renewed.{IsRenewedBetween}
use Rattle.pb_state.proofs.hostvars.renewed_alone.Goals as goal

pub returns-in-Some : goal.returns-in-Some
returns-in-Some c =
    subst (λ (known : FactsOf). IfSome c.renewed_by.result (IsRenewedBetween c.args.plan.now.inventory c.args.plan.now.extra c.args.past.now known c.args.host.0 c.args.hosts)) c.in-Some.ensures c.renewed_by.ensures
