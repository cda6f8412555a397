use Rattle.std.proofs.Common.{◌≡◌, Ok, subst}
use Rattle.std.specs.Prelude.{codes}
use Rattle.pb_reading.specs.Ahead.{ahead}
use Rattle.pb_reading.specs.Reading.{Stops, each_of}
use Rattle.pb_play_reading.specs.Handlers.{handler}
use Rattle.pb_play_reading.specs.NoEffect.{key_or}
use Rattle.pb_play_reading.proofs.Steps.{part_stopped, gathers_stop, handlers_stop, before_is}
use Rattle.pb_play_reading.proofs.play.read_before_hosts.Goals as goal

pub returns-in_err-gathers-clause-value : goal.returns-in_err-gathers-clause-value
returns-in_err-gathers-clause-value c =
    part_stopped _ c.in_err-gathers.field-0.0 _ _ c.from_residual-in_err-gathers.ensures.1
    (gathers_stop (ahead c.args.keys.now) (ahead c.read_on_failure.new.keys) c.in_ok-on_failure.on_failure c.in_err-gathers.field-0.0 c.in_ok-on_failure.ensures.value c.in_err-gathers.ensures.value)

pub returns-in_err-handlers-clause-value : goal.returns-in_err-handlers-clause-value
returns-in_err-handlers-clause-value c =
    part_stopped _ c.in_err-handlers.field-0.0 _ _ c.from_residual-in_err-handlers.ensures.1
    (
    handlers_stop (ahead c.args.keys.now) (ahead c.read_on_failure.new.keys) (ahead c.field_or.new.self) c.in_ok-on_failure.on_failure c.in_ok-gathers.gathers c.in_err-handlers.field-0.0
    c.in_ok-on_failure.ensures.value c.in_ok-gathers.ensures.value
    (subst (λ none. Stops c.in_err-handlers.field-0.0 (key_or (codes "handlers") (each_of handler) none (ahead c.field_or.new.self))) c.new.ensures c.in_err-handlers.ensures.value)
    )

pub returns-clause-value : goal.returns-clause-value
returns-clause-value c =
    before_is (ahead c.args.keys.now) (ahead c.read_on_failure.new.keys) (ahead c.field_or.new.self) (ahead c.field_or-2.new.self) c.in_ok-on_failure.on_failure c.in_ok-gathers.gathers c.in_ok-handlers.handlers
    c.in_ok-on_failure.ensures.value c.in_ok-gathers.ensures.value
    (subst (λ none. key_or (codes "handlers") (each_of handler) none (ahead c.field_or.new.self) ≡ Ok (record { value = c.in_ok-handlers.handlers; ahead = ahead c.field_or-2.new.self })) c.new.ensures c.in_ok-handlers.ensures.value)
