use Rattle.std.proofs.Common.{◌+◌, ◌∙◌, List, ap, arith, drop, get_or, sym}
use Rattle.std.proofs.lemmas.List.{drop_all, drop_more}
use Rattle.pb_state.specs.Learners.{each_once, is_among}
use Rattle.pb_state.proofs.InTurn.{Entry, once_end, once_more, once_not}
use Rattle.pb_state.proofs.hostvars.each_once.Goals as goal

pub returns-then-is_among : goal.returns-then-is_among
returns-then-is_among c =
    let one = get_or c.args.log.now c.loop-at.at c.index-log-at.result in
    once_not one (drop c.loop-at.at c.args.log.now) (drop (c.loop-at.at + 1) c.args.log.now) (each_once c.args.log.now)
    (drop_more c.args.log.now c.loop-at.at c.index-log-at.result (omega (arith, c.loop-at-test.true)))
    (ap (λ (rest : List Entry). is_among rest one.0.0) (sym c.behind.ensures) ∙ sym c.is_among.ensures ∙ c.if-is_among.true) c.loop-at.invariant

pub loop-at-preserved : goal.loop-at-preserved
loop-at-preserved c =
    let one = get_or c.args.log.now c.loop-at.at c.index-log-at.result in
    once_more one (drop c.loop-at.at c.args.log.now) (drop (c.loop-at.at + 1) c.args.log.now) (each_once c.args.log.now)
    (drop_more c.args.log.now c.loop-at.at c.index-log-at.result (omega (arith, c.loop-at-test.true)))
    (ap (λ (rest : List Entry). is_among rest one.0.0) (sym c.behind.ensures) ∙ sym c.is_among.ensures ∙ c.if-is_among.false) c.loop-at.invariant

pub returns : goal.returns
returns c = once_end (drop c.loop-at.at c.args.log.now) (each_once c.args.log.now) (drop_all c.loop-at.at c.args.log.now (omega (arith, c.loop-at-test.false))) c.loop-at.invariant
