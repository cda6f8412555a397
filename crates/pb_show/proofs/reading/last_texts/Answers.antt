use Rattle.std.proofs.Common.{◌≡◌, ℕ, List, IfOk, ap, ◌∙◌, subst, map}
use Rattle.serde_json.specs.View.{view}
use Rattle.pb_show.specs.Reading.{texts_of}
use Rattle.pb_show.proofs.Rows.{last-of-views}
use Rattle.pb_show.proofs.reading.last_texts.Goals as goal

pub returns : goal.returns
returns c =
    let e = ap (λ vs. texts_of (map view vs)) (rw c.as_slice.ensures.value at c.last_of.ensures) ∙ last-of-views c.args.values.now.items in
    subst (λ (l : List (List ℕ)). IfOk c.texts_of.result (λ texts. texts ≡ l)) e c.texts_of.ensures
