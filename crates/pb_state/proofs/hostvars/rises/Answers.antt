use Rattle.std.proofs.Common.{◌+◌, ◌∷◌, ◌∙◌, None, ap, drop, sym}
use Rattle.std.proofs.lemmas.List.{drop_all, drop_more}
use Rattle.pb_state.specs.Learners.{rises}
use Rattle.pb_state.proofs.InTurn.{Entry, rises_end, rises_more, rises_not}
use Rattle.pb_state.proofs.hostvars.rises.Goals as goal

pub returns-then-not-is_higher : goal.returns-then-not-is_higher
returns-then-not-is_higher c =
    rises_not c.loop-entry.last c.entry-item.result (drop c.loop-entry.entry-index c.args.log.now) (drop (c.loop-entry.entry-index + 1) c.args.log.now) (rises None c.args.log.now)
    (drop_more c.args.log.now c.loop-entry.entry-index c.entry-item.result c.loop-entry-test.true ∙ ap (λ (one : Entry). one ∷ drop (c.loop-entry.entry-index + 1) c.args.log.now) (sym c.entry-item.is))
    (sym c.is_higher.ensures ∙ c.if-not-is_higher.true) c.loop-entry.invariant

pub loop-entry-preserved : goal.loop-entry-preserved
loop-entry-preserved c =
    rises_more c.loop-entry.last c.entry-item.result (drop c.loop-entry.entry-index c.args.log.now) (drop (c.loop-entry.entry-index + 1) c.args.log.now) (rises None c.args.log.now)
    (drop_more c.args.log.now c.loop-entry.entry-index c.entry-item.result c.loop-entry-test.true ∙ ap (λ (one : Entry). one ∷ drop (c.loop-entry.entry-index + 1) c.args.log.now) (sym c.entry-item.is))
    (sym c.is_higher.ensures ∙ c.if-not-is_higher.false) c.loop-entry.invariant

pub returns : goal.returns
returns c =
    rises_end c.loop-entry.last (drop c.loop-entry.entry-index c.args.log.now) (rises None c.args.log.now) (drop_all c.loop-entry.entry-index c.args.log.now c.loop-entry-test.false) c.loop-entry.invariant
