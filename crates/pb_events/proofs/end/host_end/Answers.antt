use Rattle.std.proofs.Common.{rules, ◌≡◌, ◌++◌, ◌∷◌, [], codes, ap, refl, ◌∙◌}
use Rattle.std.proofs.lemmas.Result.{IfOk-weaker}
use Rattle.json.specs.Token.{begin_object, key, string}
use Rattle.pb_value.specs.Datum.{text}
use Rattle.pb_events.proofs.end.host_end.Goals as goal

pub returns : goal.returns
returns c =
    let begun : c.in_ok-out.out.tokens ≡ begin_object ∷ key (codes "event") ∷ string c.args.event.now ∷ key (codes "host") ∷ string c.args.site.now.host ∷ [] = search rules in
    IfOk-weaker c.end_shown.result _ _ (λ bytes is. is ((codes "event", text c.args.event.now) ∷ (codes "host", text c.args.site.now.host) ∷ []) begun ∙ rw c.in_ok-out.ensures.before refl) c.end_shown.ensures
