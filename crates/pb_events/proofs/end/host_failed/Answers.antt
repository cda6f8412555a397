use Rattle.std.proofs.Common.{rules, ◌≡◌, ◌++◌, ◌∷◌, [], codes, ap, refl, ◌∙◌}
use Rattle.std.proofs.lemmas.Result.{IfOk-weaker}
use Rattle.json.specs.Token.{begin_object, key, string, boolean}
use Rattle.pb_value.specs.Datum.{text, boolean as truth}
use Rattle.pb_events.proofs.end.host_failed.Goals as goal

pub returns : goal.returns
returns c =
    let begun : c.in_ok-out.out.tokens ≡ begin_object ∷ key (codes "event") ∷ string (codes "runner_on_failed") ∷ key (codes "host") ∷ string c.args.site.now.host ∷ [] = search rules in
    let put : c.put_bool.new.out.tokens ≡ c.in_ok-out.out.tokens ++ key (codes "ignored") ∷ boolean c.args.ignored ∷ [] = search rules in
    let before : c.put_bool.new.out.before ≡ c.args.lines.items = search rules in
    IfOk-weaker c.end_shown.result _ _ (λ bytes is. is ((codes "event", text (codes "runner_on_failed")) ∷ (codes "host", text c.args.site.now.host) ∷ (codes "ignored", truth c.args.ignored) ∷ [])
    (put ∙ ap (λ ts. ts ++ key (codes "ignored") ∷ boolean c.args.ignored ∷ []) begun) ∙ rw before refl) c.end_shown.ensures
