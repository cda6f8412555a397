use Rattle.std.proofs.Common.{◌≡◌, ℕ, ◌+◌, ◌<◌, List, ◌∷◌, length, get_or, drop, sym, ap, ◌∙◌, arith}
use Rattle.std.proofs.lemmas.Iterator.{YieldsList-from_chars}
use Rattle.std.proofs.lemmas.Iterator.Consumers.{YieldsList-turn, YieldsList-end}
use Rattle.std.proofs.lemmas.List.{at_drop_more, at_drop_all, length_push}
use Rattle.std.specs.Str.{chars}
use Rattle.pb_words.specs.Cutting.{resumed}
use Rattle.pb_words.proofs.words.cut.Goals as goal

drop_step : (cs : List ℕ) (n c : ℕ) → (n < length cs) × (c ≡ get_or cs n c) → drop n cs ≡ c ∷ drop (n + 1) cs
drop_step cs n c h = at_drop_more (λ t. t) cs n c h.0 ∙ ap (λ x. x ∷ drop (n + 1) cs) (sym h.1)

pub loop-c-preserved : goal.loop-c-preserved
loop-c-preserved c =
    let t = YieldsList-turn (YieldsList-from_chars c.args.text.now c.utf8.text cc) c.loop-c.yielded _ c.loop-c.yielded_by _ _ c.in-Some.c c.in-Some.is c.next.ensures.steps in
    let e = drop_step _ _ _ t in
    let n = length_push c.loop-c.yielded c.in-Some.c in
    rw n (c.in_ok-cutter.ensures (drop (length c.loop-c.yielded + 1) (chars c.args.text.now)) ∙ ap (resumed c.loop-c.cutter) (sym e) ∙ c.loop-c.invariant)

pub returns : goal.returns
returns c =
    let t = YieldsList-end (YieldsList-from_chars c.args.text.now c.utf8.text cc) c.loop-c.yielded _ c.loop-c.yielded_by _ _ c.in-None.is c.next.ensures.steps in
    sym (at_drop_all (resumed c.loop-c.cutter) (chars c.args.text.now) (length c.loop-c.yielded) (omega (arith, t.1))) ∙ c.loop-c.invariant
