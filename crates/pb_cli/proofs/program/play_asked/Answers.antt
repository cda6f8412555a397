use Rattle.std.proofs.Common.{rules, inl, inr}
use Rattle.pb_cli.specs.World.{stream_of}
use Rattle.pb_cli.proofs.Ending.{done_badly}
use Rattle.pb_cli.proofs.program.play_asked.Goals as goal

pub returns-in-Err-Outcomes-clause-fault : goal.returns-in-Err-Outcomes-clause-fault
returns-in-Err-Outcomes-clause-fault g c = λ one. let bad_outcomes = c.play_bundle.ensures.bad_outcomes c.in-Err-Outcomes.fault (search rules) in inl bad_outcomes.untouched

pub returns-in-Err-Trail-clause-fault : goal.returns-in-Err-Trail-clause-fault
returns-in-Err-Trail-clause-fault g c = λ one. let unread = c.play_bundle.ensures.unread c.in-Err-Trail.fault (search rules) in inl unread.untouched

pub returns-in-Ok-clause-fault : goal.returns-in-Ok-clause-fault
returns-in-Ok-clause-fault g c = λ one. done_badly _ _ _ _ _ _ _ _ c.in-Ok.played c.in-Ok.ensures.answered (c.end.ensures.fault one)

pub returns-in-Err-Run-clause-fault : goal.returns-in-Err-Run-clause-fault
returns-in-Err-Run-clause-fault g c = λ one.
    let fault = c.in-Err-Run.fault in
    let trail = c.in-Err-Run.trail in
    inr (inl (fault, trail, stream_of g.E.LineOut c.play_bundle.new.err, c.play_bundle.ensures.stopped fault trail (search rules), c.play_bundle.ensures.failed fault trail (search rules)))
