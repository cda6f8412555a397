use Rattle.std.proofs.Common.{◌∙◌, ap, get_or, [], arith}
use Rattle.std.specs.List.{position_or_len}
use Rattle.std.proofs.lemmas.List.{get_or_default}
use Rattle.std.specs.Str.{bytes_eq}
use Rattle.pb_handlers.proofs.Lookups.{known_within, is_known, is_fresh, words_stay, words_grow, added_new, added_known}
use Rattle.pb_handlers.proofs.index.add.Goals as goal

pub index_mut-requires : goal.index_mut-requires
index_mut-requires c =
    let known = is_known _ _ c.in_ok-at.ensures.is_new c.if-is_new.false in
    let within = known_within c.args.word.now c.args.words.now known in
    omega (arith, within, c.in_ok-at.ensures.number, c.requires, c.args.numbers.now.ok)

pub returns-in_ok-push-2-clause-among : goal.returns-in_ok-push-2-clause-among
returns-in_ok-push-2-clause-among c = λ other k.
    let fresh = is_fresh _ _ c.in_ok-at.ensures.is_new c.if-is_new.true in
    rw (c.in_ok-at.ensures.words, words_grow c.args.word.now c.args.words.now fresh, c.in_ok-push-2.ensures.items, c.in_ok-push.ensures.ok, c.new-first.ensures)
    (added_new other c.args.word.now c.args.words.now c.args.numbers.now.items k c.args.number c.requires fresh)

pub returns-in_ok-push-3-clause-among : goal.returns-in_ok-push-3-clause-among
returns-in_ok-push-3-clause-among c = λ other k.
    let known = is_known _ _ c.in_ok-at.ensures.is_new c.if-is_new.false in
    let within = known_within c.args.word.now c.args.words.now known in
    let read = c.index_mut.ensures.value ∙ ap (λ j. get_or c.args.numbers.now.items j c.index_mut.result.now) c.in_ok-at.ensures.number
    ∙ get_or_default c.args.numbers.now.items (position_or_len (bytes_eq c.args.word.now) c.args.words.now) c.index_mut.result.now [] (omega (arith, within, c.requires)) in
    rw (c.in_ok-at.ensures.words, words_stay c.args.word.now c.args.words.now known, c.in_ok-push-3.ensures.ok, c.in_ok-at.ensures.number, read)
    (added_known other c.args.word.now c.args.words.now c.args.numbers.now.items k c.args.number c.requires known)
