-- Two keys, one behind the other.
use Rattle.std.specs.Prelude.{false, codes}
use Rattle.pb_reading.specs.Ahead.{ahead}
use Rattle.pb_written.specs.Simple.{switched}
use Rattle.pb_play_reading.specs.NoEffect.{key, key_or}
use Rattle.pb_play_reading.specs.declared.play.OnFailure.{OnFailure}
use Rattle.pb_play_reading.proofs.Steps.{part_stopped, second_stops, both_are}
use Rattle.pb_play_reading.proofs.play.read_on_failure.Goals as goal

pub returns-in_err-force_handlers-clause-value : goal.returns-in_err-force_handlers-clause-value
returns-in_err-force_handlers-clause-value c =
    part_stopped _ c.in_err-force_handlers.field-0.0 _ _ c.from_residual-in_err-force_handlers.ensures.1
    (second_stops {C = OnFailure} (λ fatal forced. record { any_errors_fatal = fatal; force_handlers = forced }) (key (codes "any_errors_fatal") switched) (key_or (codes "force_handlers") switched false)
    (ahead c.args.keys.now) (ahead c.field.new.self) c.in_ok-any_errors_fatal.any_errors_fatal c.in_err-force_handlers.field-0.0 c.in_ok-any_errors_fatal.ensures.value c.in_err-force_handlers.ensures.value)

pub returns-clause-value : goal.returns-clause-value
returns-clause-value c =
    both_are {C = OnFailure} (λ fatal forced. record { any_errors_fatal = fatal; force_handlers = forced }) (key (codes "any_errors_fatal") switched) (key_or (codes "force_handlers") switched false)
    (ahead c.args.keys.now) (ahead c.field.new.self) (ahead c.field_or.new.self) c.in_ok-any_errors_fatal.any_errors_fatal c.in_ok-force_handlers.force_handlers c.in_ok-any_errors_fatal.ensures.value c.in_ok-force_handlers.ensures.value
