use Rattle.std.proofs.Common.{sym, subst, ◌∙◌}
use Rattle.pb_reading.specs.Ahead.{ahead}
use Rattle.pb_reading.specs.Reading.{Stops}
use Rattle.pb_outcome.proofs.Steps.{stopped, unreachable_stops, unknown_stops, rest_is}
use Rattle.pb_outcome.proofs.reading.read_rest.Goals as goal

pub returns-in_err-unreachable : goal.returns-in_err-unreachable
returns-in_err-unreachable c =
    stopped _ c.in_err-unreachable.field-0.0 _ c.from_residual-in_err-unreachable.ensures.1
    (unreachable_stops c.args.path.now c.args.first (ahead c.args.keys) _ _ _ _ c.in_err-unreachable.field-0.0 c.in_ok-out.ensures.value c.in_ok-rc.ensures.value c.in_err-unreachable.ensures.value)

pub returns-in_err-unknown : goal.returns-in_err-unknown
returns-in_err-unknown c =
    stopped _ c.in_err-unknown.field-0.0 _ c.from_residual-in_err-unknown.ensures.1
    (unknown_stops c.args.path.now c.args.first (ahead c.args.keys) _ _ _ _ _ _ c.in_err-unknown.field-0.0 c.in_ok-out.ensures.value c.in_ok-rc.ensures.value c.in_ok-unreachable.ensures.value c.in_err-unknown.ensures)

pub returns-in_err-finish : goal.returns-in_err-finish
returns-in_err-finish c =
    stopped _ c.in_err-finish.field-0.0 _ c.from_residual-in_err-finish.ensures.1
    (subst (Stops c.in_err-finish.field-0.0)
    (sym (rest_is c.args.path.now c.args.first (ahead c.args.keys) _ _ _ _ _ _ _ _ c.in_ok-out.ensures.value c.in_ok-rc.ensures.value c.in_ok-unreachable.ensures.value c.in_ok-unknown.ensures))
    c.in_err-finish.ensures)

pub returns : goal.returns
returns c =
    rest_is c.args.path.now c.args.first (ahead c.args.keys) _ _ _ _ _ _ _ _ c.in_ok-out.ensures.value c.in_ok-rc.ensures.value c.in_ok-unreachable.ensures.value c.in_ok-unknown.ensures
    ∙ c.in_ok-finish.ensures
