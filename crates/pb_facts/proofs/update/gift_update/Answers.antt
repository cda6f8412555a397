use Rattle.std.proofs.Common.{◌≡◌, ap, subst, sym}
use Rattle.std.specs.Prelude.{IfOk}
use Rattle.pb_facts.specs.declared.facts.Gives.{Gives}
use Rattle.pb_facts.specs.Facts.{FactsOf, with_given}
use Rattle.pb_facts.specs.Update.{applied}
use Rattle.pb_facts.proofs.update.gift_update.Goals as goal

pub returns-in-Nothing : goal.returns-in-Nothing
returns-in-Nothing c = λ facts. sym (ap (λ (g : Gives). with_given g c.args.given.now facts) c.in-Nothing.is)

pub returns-in-Sets : goal.returns-in-Sets
returns-in-Sets c =
    subst (λ (g : Gives). IfOk c.set_gift.result (λ update. (facts : FactsOf) → applied update facts ≡ with_given g c.args.given.now facts)) (sym c.in-Sets.is) c.set_gift.ensures

pub returns-in-Gathers : goal.returns-in-Gathers
returns-in-Gathers c =
    subst (λ (g : Gives). IfOk c.gathered_gift.result (λ update. (facts : FactsOf) → applied update facts ≡ with_given g c.args.given.now facts)) (sym c.in-Gathers.is) c.gathered_gift.ensures
