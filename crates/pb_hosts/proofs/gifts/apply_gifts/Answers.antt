use Rattle.std.proofs.Common.{◌∙◌, List, ap}
use Rattle.std.proofs.lemmas.Result.{on_ok_weaker}
use Rattle.pb_host.specs.FromTaskVars.{DelegatedFacts}
use Rattle.pb_hosts.specs.Giving.{with_delegated}
use Rattle.pb_hosts.proofs.gifts.apply_gifts.Goals as goal

pub returns-clause-ok : goal.returns-clause-ok
returns-clause-ok c =
    on_ok_weaker c.apply_each.result
    (λ done. done ∙ c.in_ok-all.ensures c.args.rows.now.items ∙ ap (λ (gifts : List DelegatedFacts). with_delegated gifts c.args.rows.now.items) c.as_slice.ensures.value) c.apply_each.ensures.ok
