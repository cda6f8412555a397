use Rattle.std.proofs.Common.{◌≡◌, ap, subst, sym}
use Rattle.std.specs.Prelude.{IfOk}
use Rattle.pb_facts.specs.declared.update.FactsUpdate.{FactsUpdate}
use Rattle.pb_facts.specs.Facts.{FactsOf}
use Rattle.pb_facts.specs.Update.{applied}
use Rattle.pb_facts.proofs.update.FactsUpdate.join.Goals as goal

pub returns-in-Nothing : goal.returns-in-Nothing
returns-in-Nothing c = λ facts. ap (applied c.args.next) (sym (ap (λ (u : FactsUpdate). applied u facts) c.in-Nothing.is))

pub returns-in-More : goal.returns-in-More
returns-in-More c =
    subst (λ (u : FactsUpdate). IfOk c.behind_values.result (λ both. (facts : FactsOf) → applied both facts ≡ applied c.args.next (applied u facts))) (sym c.in-More.is) c.behind_values.ensures

pub returns-in-Gathered : goal.returns-in-Gathered
returns-in-Gathered c =
    subst (λ (u : FactsUpdate). IfOk c.behind_facts.result (λ both. (facts : FactsOf) → applied both facts ≡ applied c.args.next (applied u facts))) (sym c.in-Gathered.is) c.behind_facts.ensures
