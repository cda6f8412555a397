use Rattle.std.proofs.Common.{◌∙◌, ap}
use Rattle.pb_facts.specs.Update.{applied}
use Rattle.pb_facts.specs.declared.update.FactsUpdate.{FactsUpdate}
use Rattle.pb_hosts.proofs.gifts.join_to.Goals as goal

pub returns-clause-both : goal.returns-clause-both
returns-clause-both c = λ facts. c.in_ok-both.ensures facts ∙ ap (λ (u : FactsUpdate). applied c.args.next (applied u facts)) c.replace-first.ensures.value
