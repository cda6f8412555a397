use Rattle.pb_reading.specs.Ahead.{ahead}
use Rattle.pb_play_reading.proofs.Steps.{part_stopped, success_msg_stops, said_is}
use Rattle.pb_play_reading.proofs.assert.read_said.Goals as goal

pub returns-in_err-success_msg-clause-value : goal.returns-in_err-success_msg-clause-value
returns-in_err-success_msg-clause-value c =
    part_stopped _ c.in_err-success_msg.field-0.0 _ _ c.from_residual-in_err-success_msg.ensures.1
    (success_msg_stops (ahead c.args.keys.now) (ahead c.field.new.self) (ahead c.field-2.new.self) _ _ c.in_err-success_msg.field-0.0 c.in_ok-fail_msg.ensures.value c.in_ok-msg.ensures.value c.in_err-success_msg.ensures.value)

pub returns-clause-value : goal.returns-clause-value
returns-clause-value c =
    said_is (ahead c.args.keys.now) (ahead c.field.new.self) (ahead c.field-2.new.self) (ahead c.field-3.new.self) _ _ _ c.in_ok-fail_msg.ensures.value c.in_ok-msg.ensures.value c.in_ok-success_msg.ensures.value
