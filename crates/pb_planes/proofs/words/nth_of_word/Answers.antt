use Rattle.std.proofs.Common.{rules, arith, ◌≡◌, ◌∙◌, true, false, sym}
use Rattle.pb_planes.proofs.Counted.{ones_more, all_counted}
use Rattle.pb_planes.proofs.words.nth_of_word.Goals.{then-bit_of+else-left-eq0, else-bit_of}
use Rattle.pb_planes.proofs.words.nth_of_word.Goals as goal

pub loop-j-preserved : goal.loop-j-preserved
loop-j-preserved c =
    elim c.if-bit_of.branch [
      | then-bit_of+else-left-eq0 w ↦
          let more = ones_more c.args.word c.loop-j.j true (sym c.bit_of.ensures ∙ w.if-bit_of.true) in
          let inv = c.loop-j.invariant in
          omega (arith, more, inv, w.left-is, w.if-left-eq0.false)
      | else-bit_of w ↦
          let more = ones_more c.args.word c.loop-j.j false (sym c.bit_of.ensures ∙ w.if-bit_of.false) in
          let inv = c.loop-j.invariant in
          omega (arith, more, inv, w.left-is)
    ]

pub returns-clause-set : goal.returns-clause-set
returns-clause-set c = absurd (all_counted c.args.word c.args.before c.loop-j.left c.loop-j.j (search rules) c.requires c.loop-j.invariant)

pub returns-clause-before : goal.returns-clause-before
returns-clause-before c = absurd (all_counted c.args.word c.args.before c.loop-j.left c.loop-j.j (search rules) c.requires c.loop-j.invariant)
