-- Two keys, one behind the other.
use Rattle.std.specs.Prelude.{codes}
use Rattle.pb_reading.specs.Ahead.{ahead}
use Rattle.pb_written.specs.Simple.{switched}
use Rattle.pb_written.specs.Conditions.{conditions}
use Rattle.pb_play_reading.specs.Tasks.{key}
use Rattle.pb_play_reading.specs.declared.task.Failing.{Failing}
use Rattle.pb_play_reading.proofs.Steps.{part_stopped, first_stops, second_stops, both_are}
use Rattle.pb_play_reading.proofs.task.read_failing.Goals as goal

pub returns-in_err-failed_when-clause-value : goal.returns-in_err-failed_when-clause-value
returns-in_err-failed_when-clause-value c =
    part_stopped _ c.in_err-failed_when.field-0.0 _ _ c.from_residual.ensures.1
    (first_stops {C = Failing} (λ failed ignored. record { failed_when = failed; ignore_errors = ignored }) (key (codes "failed_when") conditions) (key (codes "ignore_errors") switched)
    (ahead c.args.keys.now) c.in_err-failed_when.field-0.0 c.in_err-failed_when.ensures.value)

pub returns-in_err-ignore_errors-clause-value : goal.returns-in_err-ignore_errors-clause-value
returns-in_err-ignore_errors-clause-value c =
    part_stopped _ c.in_err-ignore_errors.field-0.0 _ _ c.from_residual-in_err-ignore_errors.ensures.1
    (second_stops {C = Failing} (λ failed ignored. record { failed_when = failed; ignore_errors = ignored }) (key (codes "failed_when") conditions) (key (codes "ignore_errors") switched)
    (ahead c.args.keys.now) (ahead c.field.new.self) c.in_ok-failed_when.failed_when c.in_err-ignore_errors.field-0.0 c.in_ok-failed_when.ensures.value c.in_err-ignore_errors.ensures.value)

pub returns-clause-value : goal.returns-clause-value
returns-clause-value c =
    both_are {C = Failing} (λ failed ignored. record { failed_when = failed; ignore_errors = ignored }) (key (codes "failed_when") conditions) (key (codes "ignore_errors") switched)
    (ahead c.args.keys.now) (ahead c.field.new.self) (ahead c.field-2.new.self) c.in_ok-failed_when.failed_when c.in_ok-ignore_errors.ignore_errors c.in_ok-failed_when.ensures.value c.in_ok-ignore_errors.ensures.value
