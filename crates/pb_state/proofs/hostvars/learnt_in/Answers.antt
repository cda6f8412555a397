use Rattle.std.proofs.Common.{◌+◌, ◌++◌, ◌∷◌, ◌∙◌, List, ap, drop, sym}
use Rattle.std.specs.Borrow.{Bor}
use Rattle.std.proofs.lemmas.List.{drop_more}
use Rattle.pb_facts.specs.Facts.{FactsOf}
use Rattle.pb_variables.specs.Learnt.{facts_in}
use Rattle.pb_host.specs.Host.{HostOf}
use Rattle.pb_state.specs.Machine.{learnt_by}
use Rattle.pb_state.proofs.ReadHosts.{one_more}
use Rattle.pb_state.proofs.hostvars.learnt_in.Goals as goal

pub loop-row-preserved : goal.loop-row-preserved
loop-row-preserved c =
    one_more c.loop-row.learnt.items c.facts.result c.row-item.result (drop (c.loop-row.row-index + 1) c.args.rows.now) c.args.rows.now c.facts.ensures
    (c.loop-row.invariant
    ∙ ap (λ (rows : List HostOf). facts_in c.loop-row.learnt.items ++ learnt_by rows)
    (drop_more c.args.rows.now c.loop-row.row-index c.row-item.result c.loop-row-test.true ∙ ap (λ (row : HostOf). row ∷ drop (c.loop-row.row-index + 1) c.args.rows.now) (sym c.row-item.is)))
    ∙ ap (λ (learnt : List (Bor FactsOf)). facts_in learnt ++ learnt_by (drop (c.loop-row.row-index + 1) c.args.rows.now)) (sym c.in_ok-push.ensures.items)
