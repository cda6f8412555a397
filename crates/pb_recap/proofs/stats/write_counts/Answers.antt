use Rattle.std.proofs.Common.{rules, ◌≡◌, ◌++◌, ◌∷◌, []}
use Rattle.std.proofs.lemmas.Result.{on_ok_weaker}
use Rattle.json.specs.Token.{begin_object}
use Rattle.pb_recap.proofs.Named.{counts_written}
use Rattle.pb_recap.proofs.stats.write_counts.Goals as goal

pub returns-clause-tokens : goal.returns-clause-tokens
returns-clause-tokens c =
    let begun : c.begin_object.new.self.tokens ≡ c.args.out.now.tokens ++ begin_object ∷ [] = search rules in
    on_ok_weaker c.end_object.result
    (counts_written c.args.out.now.tokens c.begin_object.new.self.tokens c.put_count.new.out.tokens c.put_count-2.new.out.tokens c.put_count-3.new.out.tokens
    c.put_count-4.new.out.tokens c.put_count-5.new.out.tokens c.put_count-6.new.out.tokens c.put_count-7.new.out.tokens c.end_object.new.self.tokens c.args.counts.now
    begun c.in_ok-put_count.ensures.tokens c.in_ok-put_count-2.ensures.tokens c.in_ok-put_count-3.ensures.tokens c.in_ok-put_count-4.ensures.tokens
    c.in_ok-put_count-5.ensures.tokens c.in_ok-put_count-6.ensures.tokens c.in_ok-put_count-7.ensures.tokens)
    c.end_object.ensures.ok
