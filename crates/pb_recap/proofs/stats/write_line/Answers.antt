use Rattle.std.proofs.Common.{rules, ◌≡◌, ◌++◌, ◌∷◌, [], codes, map}
use Rattle.std.proofs.lemmas.Result.{on_ok_weaker}
use Rattle.json.specs.Token.{begin_object, key as key_token, string}
use Rattle.pb_recap.specs.Named.{members_of, named_in}
use Rattle.pb_recap.proofs.Named.{line_written}
use Rattle.pb_recap.proofs.stats.write_line.Goals as goal

pub returns-clause-tokens : goal.returns-clause-tokens
returns-clause-tokens c =
    let begun : c.begin_object.new.self.tokens ≡ c.args.out.now.tokens ++ begin_object ∷ [] = search (c.in_ok-begin_object.ensures, rules) in
    let event : c.key.new.self.tokens ≡ c.begin_object.new.self.tokens ++ key_token (codes "event") ∷ [] = search (c.in_ok-key.ensures, rules) in
    let name : c.string.new.self.tokens ≡ c.key.new.self.tokens ++ string (codes "playbook_on_stats") ∷ [] = search (c.in_ok-string.ensures, rules) in
    let stats : c.key-2.new.self.tokens ≡ c.string.new.self.tokens ++ key_token (codes "stats") ∷ [] = search (c.in_ok-key-2.ensures, rules) in
    on_ok_weaker c.end_object.result
    (line_written c.args.out.now.tokens c.begin_object.new.self.tokens c.key.new.self.tokens c.string.new.self.tokens c.key-2.new.self.tokens c.write_hosts.new.out.tokens
    c.end_object.new.self.tokens (members_of (map (named_in c.args.counts.now) c.args.hosts.now.entries)) begun event name stats c.in_ok-write_hosts.ensures.tokens)
    c.end_object.ensures.ok
