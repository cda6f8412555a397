use Rattle.std.proofs.Common.{rules, ◌≡◌, ◌++◌, ◌∷◌, [], codes, pos, ap, ◌∙◌}
use Rattle.std.specs.Fmt.{signed_decimal}
use Rattle.std.proofs.lemmas.Result.{IfOk-weaker}
use Rattle.json.specs.Token.{key, string, number}
use Rattle.pb_value.specs.Datum.{text, int}
use Rattle.pb_compact.specs.Tokens.{tokens_of}
use Rattle.pb_events.specs.Line.{line}
use Rattle.pb_events.proofs.Ended.{shown_put}
use Rattle.pb_events.proofs.behind.end_shown.Goals as goal

pub returns : goal.returns
returns c =
    let named : c.put_text.new.out.tokens ≡ c.args.out.tokens ++ key (codes "place") ∷ string c.args.site.now.path ∷ [] = search rules in
    let numbered : c.put_number.new.out.tokens ≡ c.put_text.new.out.tokens ++ key (codes "play") ∷ number (signed_decimal (pos c.args.site.now.number)) ∷ [] = search rules in
    let shown : c.put_value.new.out.tokens ≡ c.put_number.new.out.tokens ++ key (codes "result") ∷ tokens_of c.args.shown.now = search rules in
    let before : c.put_value.new.out.before ≡ c.args.out.before = search rules in
    IfOk-weaker c.end.result _ _ (λ bytes is members e. is _ (shown_put members c.args.site.now.path c.args.site.now.number c.args.shown.now _ _ _ _ e named numbered shown) ∙ ap (λ b. b ++ line (members ++ (codes "place", text c.args.site.now.path) ∷ (codes "play", int (pos c.args.site.now.number)) ∷ (codes "result", c.args.shown.now) ∷ [])) before) c.end.ensures
