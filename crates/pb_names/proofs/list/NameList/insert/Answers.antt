use Rattle.std.proofs.Common.{◌++◌, ◌∷◌, [], string_bytes, sym, ap, ◌∙◌}
use Rattle.std.specs.Prelude.{is_some, position}
use Rattle.std.specs.Str.{bytes_eq}
use Rattle.pb_names.proofs.Listed.{stays, grows}
use Rattle.pb_names.proofs.list.NameList.insert.Goals as goal

pub returns-then-is_some-clause-ok : goal.returns-then-is_some-clause-ok
returns-then-is_some-clause-ok c =
    stays (string_bytes c.args.name) c.args.self.now (ap (λ t. is_some (position (bytes_eq t) c.args.self.now)) (sym c.as_str.ensures.value) ∙ ap is_some (sym c.number.ensures) ∙ sym c.is_some.ensures ∙ c.if-is_some.true)

pub returns-clause-ok : goal.returns-clause-ok
returns-clause-ok c =
    c.in_ok-add.ensures.ok ∙ ap (λ t. c.args.self.now ++ t ∷ []) c.in_ok-from_string.ensures.ok
    ∙ grows (string_bytes c.args.name) c.args.self.now (ap (λ t. is_some (position (bytes_eq t) c.args.self.now)) (sym c.as_str.ensures.value) ∙ ap is_some (sym c.number.ensures) ∙ sym c.is_some.ensures ∙ c.if-is_some.false)
