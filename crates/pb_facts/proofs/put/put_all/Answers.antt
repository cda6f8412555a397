use Rattle.std.proofs.Common.{ap, ◌∙◌}
use Rattle.pb_value.specs.Datum.{put}
use Rattle.pb_facts.proofs.Fronts.{put_on, put_before}
use Rattle.pb_facts.proofs.put.put_all.Goals as goal

pub returns-in_err-try_clone-clause-err : goal.returns-in_err-try_clone-clause-err
returns-in_err-try_clone-clause-err c =
    let l = c.loop-name in
    put_before c.from_residual.result c.args.entries.now c.args.known.now l.known l.invariant.0 l.name-iterator c.next.new.self (c.in-Some.name.now, c.in-Some.value.now) l.invariant.1 c.in-Some.ensures.steps l.invariant.2

pub loop-name-preserved : goal.loop-name-preserved
loop-name-preserved c =
    let l = c.loop-name in
    put_on c.args.entries.now c.args.known.now l.known c.put.new.self l.invariant.0 l.name-iterator c.next.new.self (c.in-Some.name.now, c.in-Some.value.now) l.invariant.1 c.in-Some.ensures.steps l.invariant.2
    (rw (← c.as_str.ensures.value, ← c.in_ok-try_clone.ensures) c.in_ok-put.ensures.ok)

pub returns-in_err-put-clause-err : goal.returns-in_err-put-clause-err
returns-in_err-put-clause-err c =
    let l = c.loop-name in
    put_before c.from_residual-in_err-put.result c.args.entries.now c.args.known.now c.put.new.self l.invariant.0 l.name-iterator c.next.new.self (c.in-Some.name.now, c.in-Some.value.now) l.invariant.1 c.in-Some.ensures.steps
    (c.in_err-put.ensures.err ∙ l.invariant.2)
