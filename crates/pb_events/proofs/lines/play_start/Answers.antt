use Rattle.std.proofs.Common.{rules, ◌≡◌, ◌++◌, ◌∷◌, [], codes, pos, ◌∙◌, subst, append_assoc, refl}
use Rattle.std.specs.Fmt.{signed_decimal}
use Rattle.std.proofs.lemmas.Result.{IfOk-weaker}
use Rattle.json.specs.Token.{begin_object, key, string, number}
use Rattle.pb_value.specs.Datum.{text, int, list, items_of}
use Rattle.pb_events.specs.Members.{tokens_in}
use Rattle.pb_events.proofs.lines.play_start.Goals as goal

pub returns : goal.returns
returns c =
    let tail = (codes "name", text c.args.name.now) ∷ (codes "play", int (pos c.args.play)) ∷ [] in
    let named : c.put_text.new.out.tokens ≡ c.in_ok-out.out.tokens ++ key (codes "name") ∷ string c.args.name.now ∷ [] = search rules in
    let played : c.put_number.new.out.tokens ≡ c.put_text.new.out.tokens ++ key (codes "play") ∷ number (signed_decimal (pos c.args.play)) ∷ [] = search rules in
    let written : c.put_number.new.out.tokens ≡ c.in_ok-out.out.tokens ++ tokens_in tail =
    rw (played, named) (append_assoc c.in_ok-out.out.tokens (key (codes "name") ∷ string c.args.name.now ∷ []) (key (codes "play") ∷ number (signed_decimal (pos c.args.play)) ∷ [])) in
    let front : c.in_ok-out.out.tokens ++ tokens_in tail ≡ begin_object ∷ tokens_in ((codes "batch", int (pos c.args.batch)) ∷ (codes "event", text (codes "playbook_on_play_start")) ∷ (codes "hosts", list (items_of c.args.hosts)) ∷ tail) =
    subst (λ v. c.in_ok-out.out.tokens ++ tokens_in tail ≡ begin_object ∷ tokens_in ((codes "batch", int (pos c.args.batch)) ∷ (codes "event", text (codes "playbook_on_play_start")) ∷ (codes "hosts", v) ∷ tail)) c.list.ensures (c.in_ok-out.ensures.tokens tail) in
    let none : c.put_number.new.out.before ≡ [] = search rules in
    IfOk-weaker c.end.result _ _ (λ bytes is. is ((codes "batch", int (pos c.args.batch)) ∷ (codes "event", text (codes "playbook_on_play_start")) ∷ (codes "hosts", list (items_of c.args.hosts)) ∷ tail) (written ∙ front) ∙ rw none refl) c.end.ensures
