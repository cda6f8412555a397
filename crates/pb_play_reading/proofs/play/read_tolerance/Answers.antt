-- Two keys, one behind the other.
use Rattle.std.specs.Prelude.{false, codes}
use Rattle.pb_reading.specs.Ahead.{ahead}
use Rattle.pb_written.specs.Simple.{switched}
use Rattle.pb_play_reading.specs.NoEffect.{key, key_or}
use Rattle.pb_play_reading.specs.Percentages.{percentage}
use Rattle.pb_play_reading.specs.declared.play.Tolerance.{Tolerance}
use Rattle.pb_play_reading.proofs.Steps.{part_stopped, second_stops, both_are}
use Rattle.pb_play_reading.proofs.play.read_tolerance.Goals as goal

pub returns-in_err-max_fail_percentage-clause-value : goal.returns-in_err-max_fail_percentage-clause-value
returns-in_err-max_fail_percentage-clause-value c =
    part_stopped _ c.in_err-max_fail_percentage.field-0.0 _ _ c.from_residual-in_err-max_fail_percentage.ensures.1
    (second_stops {C = Tolerance} (λ ignored most. record { ignore_errors = ignored; max_fail_percentage = most }) (key_or (codes "ignore_errors") switched false) (key (codes "max_fail_percentage") percentage)
    (ahead c.args.keys.now) (ahead c.field_or.new.self) c.in_ok-ignore_errors.ignore_errors c.in_err-max_fail_percentage.field-0.0 c.in_ok-ignore_errors.ensures.value c.in_err-max_fail_percentage.ensures.value)

pub returns-clause-value : goal.returns-clause-value
returns-clause-value c =
    both_are {C = Tolerance} (λ ignored most. record { ignore_errors = ignored; max_fail_percentage = most }) (key_or (codes "ignore_errors") switched false) (key (codes "max_fail_percentage") percentage)
    (ahead c.args.keys.now) (ahead c.field_or.new.self) (ahead c.field.new.self) c.in_ok-ignore_errors.ignore_errors c.in_ok-max_fail_percentage.max_fail_percentage c.in_ok-ignore_errors.ensures.value c.in_ok-max_fail_percentage.ensures.value
