use Rattle.std.proofs.Common.{List, String, Global, [], ◌∷◌, ◌++◌, ◌∙◌, ap, string_bytes}
use Rattle.std.specs.Prelude.{Option}
use Rattle.pb_value.specs.Datum.{Datum}
use Rattle.pb_facts.proofs.Applying.{leads_on}
use Rattle.pb_facts.proofs.update.put_one.Goals as goal

pub returns-clause-log : goal.returns-clause-log
returns-clause-log c =
    leads_on c.args.log.now.items c.push.new.self.items c.in_ok-copy.copy (string_bytes c.args.name) c.in_ok-before.before c.args.value c.args.set.now c.replace.new.dict c.in_ok-copy.ensures.cases
    (c.in-Ok.ensures.items ∙ ap (λ (log : List (String Global × Option Datum)). log ++ (c.in_ok-copy.copy, c.in_ok-before.before) ∷ []) c.in_ok-reserve.ensures.items)
    c.in_ok-before.ensures.before c.in_ok-before.ensures.ok
