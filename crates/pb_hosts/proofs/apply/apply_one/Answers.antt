use Rattle.std.proofs.Common.{List, [], ◌∷◌, ◌++◌, ◌∙◌, ap}
use Rattle.pb_ids.specs.declared.numbers.HostNo.{HostNo}
use Rattle.pb_facts.specs.declared.update.FactsUndo.{FactsUndo}
use Rattle.pb_facts.specs.declared.update.FactsUpdate.{FactsUpdate}
use Rattle.pb_host.specs.Turned.{applies}
use Rattle.pb_hosts.specs.Hosts.{change}
use Rattle.pb_hosts.proofs.Applying.{leads_on}
use Rattle.pb_hosts.proofs.apply.apply_one.Goals as goal

pub returns-clause-ok : goal.returns-clause-ok
returns-clause-ok c = c.in_ok-past.ensures.ok ∙ ap (λ (update : FactsUpdate). change c.args.rows.now.items c.args.applied.host.0 (applies update)) c.into_update-update.ensures

pub returns-clause-log : goal.returns-clause-log
returns-clause-log c =
    leads_on c.args.log.now.items c.push.new.self.items (c.args.applied.host, c.in_ok-past.past) c.args.rows.now.items c.apply_at.new.rows.items
    (c.in-Ok.ensures.items ∙ ap (λ (log : List (HostNo × FactsUndo)). log ++ (c.args.applied.host, c.in_ok-past.past) ∷ []) c.in_ok-reserve.ensures.items)
    c.in_ok-past.ensures.past
