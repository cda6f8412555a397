use Rattle.std.proofs.Common.{◌∙◌, sym}
use Rattle.pb_handlers.proofs.Lookups.{under_none, under_some, unwrap_get}
use Rattle.pb_handlers.proofs.index.Index.under.Goals as goal

pub returns-in_err-number : goal.returns-in_err-number
returns-in_err-number c =
    rw (← c.self.view_is, c.from_residual.ensures) (sym (under_none c.args.word.now c.self.inside.words c.self.inside.numbers.items (sym c.in_err-number.ensures)))

pub returns : goal.returns
returns c =
    rw (← c.self.view_is, c.at.ensures, ← c.self.view_is) (unwrap_get c.self.inside.numbers.items c.in_ok-number.field-0
    ∙ sym (under_some c.args.word.now c.self.inside.words c.self.inside.numbers.items c.in_ok-number.field-0 (sym c.in_ok-number.ensures)))
