use Rattle.std.proofs.Common.{◌++◌, ◌∷◌, [], sym, ap, ◌∙◌}
use Rattle.std.specs.Prelude.{is_some}
use Rattle.pb_names.proofs.Listed.{stays, grows}
use Rattle.pb_names.proofs.list.NameList.put.Goals as goal

pub returns-then-is_some-clause-ok : goal.returns-then-is_some-clause-ok
returns-then-is_some-clause-ok c =
    stays c.args.name.now c.args.self.now (ap is_some (sym c.number.ensures) ∙ sym c.is_some.ensures ∙ c.if-is_some.true)

pub returns-clause-ok : goal.returns-clause-ok
returns-clause-ok c =
    c.in_ok-add.ensures.ok ∙ ap (λ t. c.args.self.now ++ t ∷ []) c.in_ok-from_str.ensures.ok
    ∙ grows c.args.name.now c.args.self.now (ap is_some (sym c.number.ensures) ∙ sym c.is_some.ensures ∙ c.if-is_some.false)
