use Rattle.std.proofs.Common.{◌≡◌, ◌++◌, ◌∷◌, [], IfOk, string_bytes, map, subst, ap, ◌∙◌}
use Rattle.json.specs.Print.{print}
use Rattle.json.specs.Tree.{json_tokens}
use Rattle.serde_json.specs.Written.{outline}
use Rattle.pb_recap.specs.InColumns.{rows_of}
use Rattle.pb_recap.specs.Named.{line_with, members_of, named_in}
use Rattle.pb_recap.proofs.Named.{line_printed}
use Rattle.pb_recap.proofs.stats.line_of.Goals as goal

pub returns : goal.returns
returns c =
    let members = members_of (map (named_in c.args.counts.now) c.in_ok-hosts.hosts.entries) in
    let written = c.in_ok-write_line.ensures.tokens ∙ ap (λ ts. ts ++ json_tokens (outline (line_with members))) c.new-out.ensures.tokens in
    let printed = ap (λ ts. print ts ++ 10 ∷ []) written ∙ line_printed c.args.plan.now.inventory.hosts (rows_of c.args.counts.now) members c.in_ok-hosts.ensures in
    subst (λ bytes. IfOk c.ended.result (λ s. string_bytes s ≡ bytes)) printed c.ended.ensures
