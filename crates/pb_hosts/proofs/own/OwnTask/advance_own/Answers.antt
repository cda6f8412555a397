use Rattle.std.proofs.Common.{List, [], ◌∷◌, ◌++◌, ◌∙◌, ap}
use Rattle.pb_ids.specs.declared.numbers.HostNo.{HostNo}
use Rattle.pb_facts.specs.declared.update.FactsUndo.{FactsUndo}
use Rattle.pb_hosts.proofs.own.OwnTask.advance_own.Goals as goal

pub returns-clause-log : goal.returns-clause-log
returns-clause-log c =
    (c.in_ok-step_result.past, c.in_ok-step_result.ensures.past, c.in-Ok.ensures.items ∙ ap (λ (log : List (HostNo × FactsUndo)). log ++ (c.args.host, c.in_ok-step_result.past) ∷ []) c.in_ok-reserve.ensures.items)
