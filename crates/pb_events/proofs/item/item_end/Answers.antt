use Rattle.std.proofs.Common.{rules, ◌≡◌, ◌++◌, ◌∷◌, [], codes, pos, ap, refl, ◌∙◌}
use Rattle.std.specs.Fmt.{signed_decimal}
use Rattle.std.proofs.lemmas.Result.{IfOk-weaker}
use Rattle.json.specs.Token.{begin_object, key, string, number}
use Rattle.pb_value.specs.Datum.{text, int}
use Rattle.pb_events.proofs.item.item_end.Goals as goal

pub returns : goal.returns
returns c =
    let begun : c.in_ok-out.out.tokens ≡ begin_object ∷ key (codes "event") ∷ string c.args.event.now ∷ key (codes "host") ∷ string c.args.site.now.host ∷ [] = search rules in
    let put : c.put_number.new.out.tokens ≡ c.in_ok-out.out.tokens ++ key (codes "item") ∷ number (signed_decimal (pos c.args.number)) ∷ [] = search rules in
    let before : c.put_number.new.out.before ≡ c.args.lines.items = search rules in
    IfOk-weaker c.end_shown.result _ _ (λ bytes is. is ((codes "event", text c.args.event.now) ∷ (codes "host", text c.args.site.now.host) ∷ (codes "item", int (pos c.args.number)) ∷ [])
    (put ∙ ap (λ ts. ts ++ key (codes "item") ∷ number (signed_decimal (pos c.args.number)) ∷ []) begun) ∙ rw before refl) c.end_shown.ensures
