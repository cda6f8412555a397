use Rattle.std.proofs.Common.{rules, ◌≡◌, ◌++◌, ◌∷◌, [], map, ap, sym, ◌∙◌}
use Rattle.json.specs.Token.{key as key_token}
use Rattle.json.specs.Tree.{json_tokens, members_tokens}
use Rattle.serde_json.specs.Written.{outline, members_outline}
use Rattle.pb_recap.specs.InColumns.{counts_of}
use Rattle.pb_recap.specs.Named.{members_of, named_in}
use Rattle.pb_recap.specs.Stats.{counts_data}
use Rattle.pb_recap.proofs.Named.{host_written}
use Rattle.pb_recap.proofs.stats.write_hosts.Goals as goal

pub loop-name-preserved : goal.loop-name-preserved
loop-name-preserved c =
    let all = c.args.counts.now in
    let name = c.in-Some.name.now in
    let host = c.in-Some.host.now in
    let keyed : c.key.new.self.tokens ≡ c.loop-name.out.tokens ++ key_token name.now ∷ [] = search rules in
    let own : c.counts_of.result ≡ counts_of all host.0 = c.counts_of.ensures in
    let written : c.write_counts.new.out.tokens ≡ c.key.new.self.tokens ++ json_tokens (outline (counts_data (counts_of all host.0))) =
    c.in_ok-write_counts.ensures.tokens ∙ ap (λ counts. c.key.new.self.tokens ++ json_tokens (outline (counts_data counts))) own in
    let left : c.loop-name.name-iterator ≡ (name, host) ∷ c.next.new.self = search rules in
    let before : c.write_counts.new.out.before ≡ c.args.out.now.before = search rules in (
      host_written all c.loop-name.out.tokens c.key.new.self.tokens c.write_counts.new.out.tokens name host c.next.new.self keyed written
          ∙ ap (λ hosts. c.loop-name.out.tokens ++ members_tokens (members_outline (members_of (map (named_in all) hosts)))) (sym left) ∙ c.loop-name.invariant.0,
      before,
    )
