use Rattle.std.proofs.Common.{rules, ◌≡◌, ◌++◌, ◌∷◌, [], ◌∙◌}
use Rattle.json.specs.Token.{end_object}
use Rattle.pb_events.proofs.Ended.{ended}
use Rattle.pb_events.proofs.line.end.Goals as goal

pub returns : goal.returns
returns c members e =
    let written : c.end_object.new.self.tokens ≡ c.args.out.tokens ++ end_object ∷ [] = search rules in
    let front : c.end_object.new.self.before ≡ c.args.out.before = search rules in
    let pushed : c.push.new.self.items ≡ c.into_inner-bytes.result.items ++ 10 ∷ [] = search rules in
    pushed ∙ rw (c.into_inner-bytes.ensures.items, written, front, e) (ended c.args.out.before members)
