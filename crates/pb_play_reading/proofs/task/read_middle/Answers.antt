use Rattle.std.proofs.Common.{◌≡◌, [], Ok, subst}
use Rattle.std.specs.Prelude.{codes}
use Rattle.pb_reading.specs.Ahead.{ahead}
use Rattle.pb_reading.specs.Fields.{field_or}
use Rattle.pb_reading.specs.Reading.{Stops}
use Rattle.pb_written.specs.Texts.{texts}
use Rattle.pb_play_reading.specs.Tasks.{tells_of_task}
use Rattle.pb_play_reading.proofs.Steps.{part_stopped, topics_stop, register_stops, tries_stop, middle_is}
use Rattle.pb_play_reading.proofs.task.read_middle.Goals as goal

pub returns-in_err-notify-clause-value : goal.returns-in_err-notify-clause-value
returns-in_err-notify-clause-value c =
    part_stopped _ c.in_err-notify.field-0.0 _ _ c.from_residual-in_err-notify.ensures.1
    (
    topics_stop (ahead c.args.keys.now) (ahead c.field.new.self) c.in_ok-name.name c.in_err-notify.field-0.0 c.in_ok-name.ensures.value
    (subst (λ none. Stops c.in_err-notify.field-0.0 (field_or tells_of_task (codes "notify") texts none (ahead c.field.new.self))) c.new.ensures c.in_err-notify.ensures.value)
    )

pub returns-in_err-register-clause-value : goal.returns-in_err-register-clause-value
returns-in_err-register-clause-value c =
    let topics : field_or tells_of_task (codes "notify") texts [] (ahead c.field.new.self) ≡ Ok (record { value = c.in_ok-notify.notify; ahead = ahead c.field_or.new.self }) =
    subst (λ none. field_or tells_of_task (codes "notify") texts none (ahead c.field.new.self) ≡ Ok (record { value = c.in_ok-notify.notify; ahead = ahead c.field_or.new.self })) c.new.ensures c.in_ok-notify.ensures.value in
    part_stopped _ c.in_err-register.field-0.0 _ _ c.from_residual-in_err-register.ensures.1
    (register_stops (ahead c.args.keys.now) (ahead c.field.new.self) (ahead c.field_or.new.self) c.in_ok-name.name c.in_ok-notify.notify c.in_err-register.field-0.0 c.in_ok-name.ensures.value topics c.in_err-register.ensures.value)

pub returns-in_err-tries-clause-value : goal.returns-in_err-tries-clause-value
returns-in_err-tries-clause-value c =
    let topics : field_or tells_of_task (codes "notify") texts [] (ahead c.field.new.self) ≡ Ok (record { value = c.in_ok-notify.notify; ahead = ahead c.field_or.new.self }) =
    subst (λ none. field_or tells_of_task (codes "notify") texts none (ahead c.field.new.self) ≡ Ok (record { value = c.in_ok-notify.notify; ahead = ahead c.field_or.new.self })) c.new.ensures c.in_ok-notify.ensures.value in
    part_stopped _ c.in_err-tries.field-0.0 _ _ c.from_residual-in_err-tries.ensures.1
    (
    tries_stop (ahead c.args.keys.now) (ahead c.field.new.self) (ahead c.field_or.new.self) (ahead c.field-2.new.self) c.in_ok-name.name c.in_ok-notify.notify c.in_ok-register.register c.in_err-tries.field-0.0
    c.in_ok-name.ensures.value topics c.in_ok-register.ensures.value c.in_err-tries.ensures.value
    )

pub returns-clause-value : goal.returns-clause-value
returns-clause-value c =
    let topics : field_or tells_of_task (codes "notify") texts [] (ahead c.field.new.self) ≡ Ok (record { value = c.in_ok-notify.notify; ahead = ahead c.field_or.new.self }) =
    subst (λ none. field_or tells_of_task (codes "notify") texts none (ahead c.field.new.self) ≡ Ok (record { value = c.in_ok-notify.notify; ahead = ahead c.field_or.new.self })) c.new.ensures c.in_ok-notify.ensures.value in
    middle_is (ahead c.args.keys.now) (ahead c.field.new.self) (ahead c.field_or.new.self) (ahead c.field-2.new.self) (ahead c.read_tries.new.keys) c.in_ok-name.name c.in_ok-notify.notify c.in_ok-register.register c.in_ok-tries.tries
    c.in_ok-name.ensures.value topics c.in_ok-register.ensures.value c.in_ok-tries.ensures.value
