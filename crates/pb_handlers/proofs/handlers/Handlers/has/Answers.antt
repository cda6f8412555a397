use Rattle.std.proofs.Common.{◌∙◌, sym, ap}
use Rattle.std.specs.Prelude.{not}
use Rattle.pb_handlers.proofs.Collected.{has_none, has_numbers, empty_is}
use Rattle.pb_handlers.proofs.handlers.Handlers.has.Goals as goal

pub returns-in-Some : goal.returns-in-Some
returns-in-Some c =
    rw (← c.self.view_is) (ap not (empty_is c.in-Some.numbers.now c.is_empty.result c.is_empty.ensures.0 c.is_empty.ensures.1)
    ∙ has_numbers c.args.word.now c.self.inside.handlers.items c.self.inside.index c.in-Some.numbers.now c.self.invariant.1 (sym c.in-Some.ensures))

pub returns-in-None : goal.returns-in-None
returns-in-None c = rw (← c.self.view_is) (sym (has_none c.args.word.now c.self.inside.handlers.items c.self.inside.index c.self.invariant.1 (sym c.in-None.ensures)))
