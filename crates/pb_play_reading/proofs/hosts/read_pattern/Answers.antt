use Rattle.std.proofs.Common.{sym, ◌∙◌}
use Rattle.pb_play_reading.proofs.Refusable.{pattern_stopped, pattern_taken, with_braces}
use Rattle.pb_play_reading.proofs.hosts.read_pattern.Goals as goal

pub returns-then-some_has_braces : goal.returns-then-some_has_braces
returns-then-some_has_braces c =
    with_braces c.args.path.now c.args.texts.now c.bad_pattern.result (sym c.some_has_braces.ensures ∙ c.if-some_has_braces.true) c.bad_pattern.ensures

pub returns-in-Ok : goal.returns-in-Ok
returns-in-Ok c =
    pattern_taken c.args.path.now c.args.texts.now c.in-Ok.pattern (sym c.some_has_braces.ensures ∙ c.if-some_has_braces.false) c.in-Ok.ensures.taken c.in-Ok.ensures.value

pub returns-in-Err : goal.returns-in-Err
returns-in-Err c =
    pattern_stopped c.args.path.now c.args.texts.now c.in-Err.fault c.refusal.result (sym c.some_has_braces.ensures ∙ c.if-some_has_braces.false) c.refusal.ensures.memory c.refusal.ensures.fault
    c.in-Err.ensures.fault
