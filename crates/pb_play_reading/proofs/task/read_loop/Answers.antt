-- Two keys, one behind the other.
use Rattle.std.proofs.Common.{◌≡◌, Ok, subst, sym}
use Rattle.std.specs.Prelude.{codes}
use Rattle.pb_reading.specs.Ahead.{ahead}
use Rattle.pb_reading.specs.Reading.{Stops}
use Rattle.pb_play_reading.specs.Loops.{over, item, control, looped}
use Rattle.pb_play_reading.specs.Tasks.{key, key_or, looping}
use Rattle.pb_play_reading.proofs.Steps.{part_stopped, second_stops, both_are}
use Rattle.pb_play_reading.proofs.task.read_loop.Goals as goal

pub returns-in_err-variable-clause-value : goal.returns-in_err-variable-clause-value
returns-in_err-variable-clause-value c =
    part_stopped _ c.in_err-variable.field-0.0 _ _ c.from_residual-in_err-variable.ensures.1
    (
    second_stops looped (key (codes "loop") over) (key_or (codes "loop_control") control item)
    (ahead c.args.keys.now) (ahead c.field.new.self) c.in_ok-over.over c.in_err-variable.field-0.0 c.in_ok-over.ensures.value
    (subst (λ named. Stops c.in_err-variable.field-0.0 (key_or (codes "loop_control") control named (ahead c.field.new.self))) c.in_ok-item.ensures c.in_err-variable.ensures.value)
    )

pub returns-clause-value : goal.returns-clause-value
returns-clause-value c =
    subst (λ made. looping (ahead c.args.keys.now) ≡ Ok (record { value = made; ahead = ahead c.field_or.new.self })) (sym c.looped.ensures)
    (
    both_are looped (key (codes "loop") over) (key_or (codes "loop_control") control item)
    (ahead c.args.keys.now) (ahead c.field.new.self) (ahead c.field_or.new.self) c.in_ok-over.over c.in_ok-variable.variable c.in_ok-over.ensures.value
    (subst (λ named. key_or (codes "loop_control") control named (ahead c.field.new.self) ≡ Ok (record { value = c.in_ok-variable.variable; ahead = ahead c.field_or.new.self })) c.in_ok-item.ensures c.in_ok-variable.ensures.value)
    )
