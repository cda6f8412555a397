use Rattle.std.proofs.Common.{◌≡◌, ℕ, ◌+◌, ◌<◌, List, ◌∷◌, ◌++◌, length, get_or, drop, sym, ap, ◌∙◌, arith, append_assoc, append-nil}
use Rattle.std.proofs.lemmas.Iterator.{YieldsList-from_chars}
use Rattle.std.proofs.lemmas.Iterator.Consumers.{YieldsList-turn, YieldsList-end}
use Rattle.std.proofs.lemmas.List.{at_drop_more, at_drop_all, length_push}
use Rattle.std.specs.Str.{chars}
use Rattle.pb_show.specs.Escaped.{shown_char, shown_chars}
use Rattle.pb_show.proofs.line.Line.put_escaped.Goals as goal

drop_step : (cs : List ℕ) (n c : ℕ) → (n < length cs) × (c ≡ get_or cs n c) → drop n cs ≡ c ∷ drop (n + 1) cs
drop_step cs n c h = at_drop_more (λ t. t) cs n c h.0 ∙ ap (λ x. x ∷ drop (n + 1) cs) (sym h.1)

-- a character more was written
step : (old new rest all : List ℕ) (c : ℕ) (left : List ℕ) → new ≡ old ++ shown_char c → left ≡ c ∷ rest → old ++ shown_chars left ≡ all → new ++ shown_chars rest ≡ all
step old new rest all c left e l i = ap (λ n. n ++ shown_chars rest) e ∙ append_assoc old (shown_char c) (shown_chars rest) ∙ ap (λ cs. old ++ shown_chars cs) (sym l) ∙ i

pub loop-c-preserved : goal.loop-c-preserved
loop-c-preserved c =
    let t = YieldsList-turn (YieldsList-from_chars c.args.text.now c.utf8.text cc) c.loop-c.yielded _ c.loop-c.yielded_by _ _ c.in-Some.c c.in-Some.is c.next.ensures.steps in
    let e = drop_step _ _ _ t in
    let n = length_push c.loop-c.yielded c.in-Some.c in
    rw n (step _ _ _ _ _ _ c.in_ok-put_char.ensures e c.loop-c.invariant)

pub returns : goal.returns
returns c =
    let t = YieldsList-end (YieldsList-from_chars c.args.text.now c.utf8.text cc) c.loop-c.yielded _ c.loop-c.yielded_by _ _ c.in-None.is c.next.ensures.steps in
    sym (append-nil c.loop-c.self) ∙ sym (at_drop_all (λ cs. c.loop-c.self ++ shown_chars cs) (chars c.args.text.now) (length c.loop-c.yielded) (omega (arith, t.1))) ∙ c.loop-c.invariant
