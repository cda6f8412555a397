use Rattle.std.proofs.Common.{◌≡◌, Ok, subst}
use Rattle.std.specs.Prelude.{codes}
use Rattle.pb_reading.specs.Ahead.{ahead}
use Rattle.pb_reading.specs.Fields.{field_or}
use Rattle.pb_written.specs.Texts.{texts}
use Rattle.pb_play_reading.specs.Tasks.{tells_of_task}
use Rattle.pb_play_reading.proofs.Steps.{stopped, handler_stops, handler_is}
use Rattle.pb_play_reading.proofs.handlers.read_rest_of_handler.Goals as goal

pub returns-in_err-task : goal.returns-in_err-task
returns-in_err-task c =
    stopped _ c.in_err-task.field-0.0 _ c.from_residual-in_err-task.ensures.1
    (
    handler_stops c.args.path.now c.args.head (ahead c.args.keys) (ahead c.field_or.new.self) (ahead c.read_loop.new.keys) c.in_ok-listens.listens c.in_ok-looped.looped c.in_err-task.field-0.0
    (subst (λ none. field_or tells_of_task (codes "listen") texts none (ahead c.args.keys) ≡ Ok (record { value = c.in_ok-listens.listens; ahead = ahead c.field_or.new.self })) c.new.ensures c.in_ok-listens.ensures.value)
    c.in_ok-looped.ensures.value c.in_err-task.ensures
    )

pub returns : goal.returns
returns c =
    handler_is c.args.path.now c.args.head (ahead c.args.keys) (ahead c.field_or.new.self) (ahead c.read_loop.new.keys) c.in_ok-listens.listens c.in_ok-looped.looped c.in_ok-task.task
    (subst (λ none. field_or tells_of_task (codes "listen") texts none (ahead c.args.keys) ≡ Ok (record { value = c.in_ok-listens.listens; ahead = ahead c.field_or.new.self })) c.new.ensures c.in_ok-listens.ensures.value)
    c.in_ok-looped.ensures.value c.in_ok-task.ensures
