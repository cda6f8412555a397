use Rattle.std.proofs.Common.{◌≡◌, ℕ, List, [], ◌∷◌, ◌++◌, OnOk, codes, ap, ◌∙◌, subst}
use Rattle.pb_show.specs.Escaped.{escaped}
use Rattle.pb_show.specs.Results.{error_line}
use Rattle.pb_show.proofs.Joined.{joined3}
use Rattle.pb_show.proofs.line.Line.put_error.Goals as goal

pub returns : goal.returns
unfolding error_line
returns c =
    let e : c.put_escaped.new.self ++ 10 ∷ [] ≡ ((c.args.self.now ++ codes "    stderr: ") ++ escaped c.args.error.now) ++ 10 ∷ [] =
    ap (λ (l : List ℕ). l ++ 10 ∷ []) (c.in_ok-put_escaped.ensures ∙ ap (λ (l : List ℕ). l ++ escaped c.args.error.now) c.in_ok-put.ensures) in
    subst (λ (l : List ℕ). OnOk c.put-2.result (c.put-2.new.self ≡ l)) (e ∙ joined3 c.args.self.now (codes "    stderr: ") (escaped c.args.error.now) (10 ∷ [])) c.put-2.ensures
