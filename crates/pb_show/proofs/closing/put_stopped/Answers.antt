use Rattle.std.proofs.Common.{◌≡◌, ℕ, List, ◌++◌, OnOk, codes, ap, ◌∙◌, subst}
use Rattle.pb_show.specs.Closing.{first_text, stopped_text}
use Rattle.pb_show.proofs.Joined.{joined2}
use Rattle.pb_show.proofs.closing.put_stopped.Goals as goal

pub returns : goal.returns
unfolding stopped_text
returns c =
    let text = codes "the run was stopped before its end" in
    subst (λ (l : List ℕ). OnOk c.put_first.result (c.put_first.new.line ≡ l))
    (ap (λ (l : List ℕ). l ++ first_text c.args.first.now) c.in_ok-put.ensures ∙ joined2 c.args.line.now text (first_text c.args.first.now)) c.put_first.ensures
