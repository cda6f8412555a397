use Rattle.std.proofs.Common.{rules, ◌≡◌, ◌++◌, ◌∙◌, true, Some, ap, sym, string_bytes}
use Rattle.std.proofs.lemmas.List.{append-nil}
use Rattle.pb_recap.specs.Kinds.{has_count}
use Rattle.pb_recap.specs.Text.{host_line}
use Rattle.pb_recap.proofs.text.push_host.Goals as goal

pub returns-in_ok-push_str-in-Some : goal.returns-in_ok-push_str-in-Some
returns-in_ok-push_str-in-Some c =
    let is : c.args.counts ≡ Some c.in-Some.counts = search rules in
    let has : has_count c.in-Some.counts ≡ true = search rules in
    let line = host_line c.args.name.now c.in-Some.counts in
    let pushed : string_bytes c.push_str.new.self ≡ string_bytes c.args.text.now ++ line = search rules in
    rw (is, has) (pushed ∙ ap (λ bytes. string_bytes c.args.text.now ++ bytes) (sym (append-nil line)))
