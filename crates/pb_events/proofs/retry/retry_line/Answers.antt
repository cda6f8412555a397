use Rattle.std.proofs.Common.{rules, ◌≡◌, ◌++◌, ◌∷◌, [], codes, pos, ap, refl, ◌∙◌}
use Rattle.std.specs.Fmt.{signed_decimal}
use Rattle.std.proofs.lemmas.Result.{IfOk-weaker}
use Rattle.json.specs.Token.{key, number, string}
use Rattle.pb_value.specs.Datum.{text, int}
use Rattle.pb_events.proofs.retry.retry_line.Goals as goal

pub returns : goal.returns
returns c =
    let first : c.put_number.new.out.tokens ≡ c.in_ok-out.out.tokens ++ key (codes "attempt") ∷ number (signed_decimal (pos c.args.retried.now.attempt)) ∷ [] = search rules in
    let next : c.put_text.new.out.tokens ≡ c.put_number.new.out.tokens ++ key (codes "event") ∷ string (codes "runner_retry") ∷ [] = search rules in
    let last : c.put_text-2.new.out.tokens ≡ c.put_text.new.out.tokens ++ key (codes "host") ∷ string c.args.site.now.host ∷ [] = search rules in
    let before : c.put_text-2.new.out.before ≡ c.args.lines.items = search rules in
    IfOk-weaker c.end_shown.result _ _ (λ bytes is. is ((codes "attempt", int (pos c.args.retried.now.attempt)) ∷ (codes "event", text (codes "runner_retry")) ∷ (codes "host", text c.args.site.now.host) ∷ [])
    (last ∙ ap (λ ts. ts ++ key (codes "host") ∷ string c.args.site.now.host ∷ []) (next ∙ ap (λ ts. ts ++ key (codes "event") ∷ string (codes "runner_retry") ∷ [])
    (first ∙ ap (λ ts. ts ++ key (codes "attempt") ∷ number (signed_decimal (pos c.args.retried.now.attempt)) ∷ []) c.in_ok-out.ensures.tokens))) ∙ rw before refl) c.end_shown.ensures
