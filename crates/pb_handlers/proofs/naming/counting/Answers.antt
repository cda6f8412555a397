use Rattle.std.proofs.Common.{◌≡◌, ◌<◌, ◌+◌, ◌-◌, ◌∙◌, ℕ, List, length, drop, sym, ap, subst, arith}
use Rattle.std.specs.List.{list_any}
use Rattle.std.specs.Str.{bytes_eq}
use Rattle.std.proofs.lemmas.List.{length-set}
use Rattle.pb_handlers.specs.declared.naming.HandlerNames.{HandlerNames}
use Rattle.pb_handlers.specs.Naming.{counting, kept, is_named}
use Rattle.pb_handlers.specs.Index.{with_word}
use Rattle.std.specs.Prelude.{not}
use Rattle.pb_handlers.proofs.Counted.{counting_keeps, one_counted, one_seen}
use Rattle.pb_handlers.proofs.naming.counting.Goals as goal

pub loop-at-preserved : goal.loop-at-preserved
loop-at-preserved c =
    let inv = c.loop-at.invariant in
    let i : ℕ = c.loop-at.at - 1 in
    let next : i + 1 ≡ c.loop-at.at = omega (arith, c.loop-at-test.true) in
    let inside : i < length c.args.handlers.now = omega (arith, c.loop-at-test.true, inv.le) in
    let counted = subst (λ j. drop j c.loop-at.counts.items ≡ counting (drop j c.args.handlers.now)) (sym next) inv.counted in
    let seen = λ (word : List ℕ). subst (λ j. list_any (bytes_eq word) c.loop-at.later ≡ list_any (is_named word) (drop j c.args.handlers.now)) (sym next) (inv.seen word) in
    let name = c.as_str.ensures ∙ ap (λ (h : HandlerNames). h.name) (sym c.index-handlers-at.is) in
    record {
      le = omega (arith, inside);
      long = length-set c.loop-at.counts.items i c.in_ok-is_new.is_new ∙ inv.long;
      counted = one_counted c.args.handlers.now c.loop-at.counts.items c.loop-at.later c.index-handlers-at.result i c.in_ok-is_new.is_new inv.long inside c.index-handlers-at.is counted seen
          (c.in_ok-is_new.ensures.is_new ∙ ap (λ w. not (list_any (bytes_eq w) c.loop-at.later)) name);
      seen = one_seen c.args.handlers.now c.loop-at.later c.insert.new.self c.index-handlers-at.result i inside c.index-handlers-at.is seen
          (c.in_ok-is_new.ensures.words ∙ ap (λ w. with_word w c.loop-at.later) name);
    }

pub returns-clause-last : goal.returns-clause-last
returns-clause-last c =
    let none : c.loop-at.at ≡ 0 = omega (arith, c.loop-at-test.false) in
    let value = subst (λ j. drop j c.loop-at.counts.items ≡ counting (drop j c.args.handlers.now)) none c.loop-at.invariant.counted in
    ap (λ marks. kept marks c.args.handlers.now) value ∙ counting_keeps c.args.handlers.now
