use Rattle.std.proofs.Common.{ap, sym, ◌∙◌}
use Rattle.std.specs.Prelude.{not}
use Rattle.pb_handlers.proofs.Lookups.{known_some, number_none, fresh_none, words_stay}
use Rattle.pb_handlers.proofs.words.WordSet.insert.Goals as goal

pub returns-in-Some-clause-is_new : goal.returns-in-Some-clause-is_new
returns-in-Some-clause-is_new c =
    rw (← c.self.view_is) (sym (ap not (known_some c.args.word.now c.self.inside.list c.in-Some.number c.in-Some.ensures)))

pub returns-in-Some-clause-words : goal.returns-in-Some-clause-words
returns-in-Some-clause-words c =
    rw (← c.self.view_is) (sym (words_stay c.args.word.now c.self.inside.list (known_some c.args.word.now c.self.inside.list c.in-Some.number c.in-Some.ensures)))

pub returns-in_ok-put-in-None-clause-number : goal.returns-in_ok-put-in-None-clause-number
returns-in_ok-put-in-None-clause-number c =
    rw (← c.self.view_is) (c.len-number.ensures ∙ number_none c.args.word.now c.self.inside.list c.in-None.ensures)

pub returns-in_ok-put-in-None-clause-is_new : goal.returns-in_ok-put-in-None-clause-is_new
returns-in_ok-put-in-None-clause-is_new c =
    rw (← c.self.view_is) (sym (ap not (fresh_none c.args.word.now c.self.inside.list c.in-None.ensures)))
