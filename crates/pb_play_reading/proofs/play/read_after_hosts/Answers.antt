use Rattle.pb_reading.specs.Ahead.{ahead}
use Rattle.pb_play_reading.proofs.Steps.{part_stopped, name_stops, lists_stop, after_is}
use Rattle.pb_play_reading.proofs.play.read_after_hosts.Goals as goal

pub returns-in_err-name-clause-value : goal.returns-in_err-name-clause-value
returns-in_err-name-clause-value c =
    part_stopped _ c.in_err-name.field-0.0 _ _ c.from_residual-in_err-name.ensures.1
    (name_stops (ahead c.args.keys.now) (ahead c.read_tolerance.new.keys) c.in_ok-tolerance.tolerance c.in_err-name.field-0.0 c.in_ok-tolerance.ensures.value c.in_err-name.ensures.value)

pub returns-in_err-lists-clause-value : goal.returns-in_err-lists-clause-value
returns-in_err-lists-clause-value c =
    part_stopped _ c.in_err-lists.field-0.0 _ _ c.from_residual-in_err-lists.ensures.1
    (
    lists_stop (ahead c.args.keys.now) (ahead c.read_tolerance.new.keys) (ahead c.field.new.self) c.in_ok-tolerance.tolerance c.in_ok-name.name c.in_err-lists.field-0.0
    c.in_ok-tolerance.ensures.value c.in_ok-name.ensures.value c.in_err-lists.ensures.value
    )

pub returns-clause-value : goal.returns-clause-value
returns-clause-value c =
    after_is (ahead c.args.keys.now) (ahead c.read_tolerance.new.keys) (ahead c.field.new.self) (ahead c.read_lists.new.keys) c.in_ok-tolerance.tolerance c.in_ok-name.name c.in_ok-lists.lists
    c.in_ok-tolerance.ensures.value c.in_ok-name.ensures.value c.in_ok-lists.ensures.value
