use Rattle.std.proofs.Common.{sym, subst}
use Rattle.serde_json.specs.View.{members_view}
use Rattle.pb_reading.specs.Reading.{Gives}
use Rattle.pb_outcome.proofs.Steps.{stopped, not_started_stops, outcome_is}
use Rattle.pb_outcome.proofs.reading.read_members.Goals as goal

pub returns-in_err-not_started : goal.returns-in_err-not_started
returns-in_err-not_started c =
    stopped _ c.in_err-not_started.field-0.0 _ c.from_residual-in_err-not_started.ensures.1
    (not_started_stops c.args.path.now (members_view c.args.members.now.entries) _ _ _ _ _ c.in_err-not_started.field-0.0 c.of-keys.ensures c.in_ok-err.ensures.value c.in_ok-facts.ensures.value
    c.in_err-not_started.ensures.value)

pub returns : goal.returns
returns c =
    subst (Gives c.read_rest.result)
    (sym (outcome_is c.args.path.now (members_view c.args.members.now.entries) _ _ _ _ _ _ _ c.of-keys.ensures c.in_ok-err.ensures.value c.in_ok-facts.ensures.value c.in_ok-not_started.ensures.value))
    c.read_rest.ensures
