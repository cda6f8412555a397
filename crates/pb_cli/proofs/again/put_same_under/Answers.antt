use Rattle.std.proofs.Common.{rules, ◌≡◌, subst, ℕ, List}
use Rattle.pb_cli.specs.Again.{ignored_text}
use Rattle.pb_cli.specs.World.{stream_of, IsPut}
use Rattle.pb_cli.proofs.Putting.{ignored_put, put_of}
use Rattle.pb_cli.proofs.again.put_same_under.Goals as goal

pub returns-in_default-outcomes-clause-put : goal.returns-in_default-outcomes-clause-put
returns-in_default-outcomes-clause-put g c =
    let before = stream_of g.E.LineOut c.args.err.now in
    let after = stream_of g.E.LineOut c.put_all.new.writer in
    let its : c.as_bytes.result.now ≡ ignored_text = c.as_bytes.ensures.value in
    let put = put_of c.put_all.result c.as_bytes.result.now before after c.put_all.ensures.ok c.put_all.ensures.err c.put_all.ensures.failed in
    ignored_put c.args.same_under c.args.trail.now c.in-Some-Some.forks c.in-Some-Some.trail c.args.bundle.now c.args.wanted.now before after (search rules) c.in-Some-Some.is-1 c.in_default-outcomes.is
    (subst (λ (text : List ℕ). IsPut text before after) its put)
