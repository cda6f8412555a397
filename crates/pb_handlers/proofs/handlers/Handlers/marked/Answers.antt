use Rattle.std.proofs.Common.{◌≡◌, ◌∙◌, length, ap, subst, arith}
use Rattle.pb_tree.specs.Walk.{noted}
use Rattle.pb_handlers.specs.Index.{numbers_under, IsIndex}
use Rattle.pb_handlers.proofs.Collected.{none_first, word_step}
use Rattle.pb_handlers.proofs.handlers.Handlers.marked.Goals as goal
use Rattle.pb_handlers.proofs.handlers.Handlers.marked.Goals.{in-Some, in_default}

pub loop-word-init : goal.loop-word-init
loop-word-init c =
    let long : c.len.result ≡ length c.args.self.now = omega (arith, c.len.ensures, c.self.inside.handlers.ok, ap length c.self.view_is) in
    c.in_ok-marks.ensures ∙ none_first c.len.result c.args.self.now long

pub loop-word-preserved : goal.loop-word-preserved
loop-word-preserved c =
    let right = subst (λ hs. IsIndex hs c.self.inside.index) c.self.view_is c.self.invariant.1 in
    let step = word_step c.args.words.now c.loop-word.word-index c.word-item.result c.args.self.now c.self.inside.index c.loop-word.marks c.match-under.marks c.loop-word-test.true c.word-item.is right c.loop-word.invariant in
    let word = ap (λ x. numbers_under x c.self.inside.index) c.as_str.ensures in
    elim c.match-under.branch [
      | in-Some w ↦ step (w.marks-is ∙ w.notify.ensures ∙ ap (noted c.loop-word.marks) (w.as_slice.ensures ∙ w.in-Some.ensures ∙ word))
      | in_default w ↦ step (w.marks-is ∙ ap (noted c.loop-word.marks) (w.in_default.ensures ∙ word))
    ]
