use Rattle.pb_command_line.proofs.Parsed.{value_answered, fault_answered, error_met}
use Rattle.pb_command_line.proofs.words.read_words.Goals as goal

pub returns-in-Ok-clause-value : goal.returns-in-Ok-clause-value
returns-in-Ok-clause-value c =
    let parsed = c.in-Ok.ensures in
    value_answered _ c.in-Ok.matches _ _ c.in_ok-command.ensures parsed.kinds parsed.matches c.request_in.ensures.value

pub returns-in-Ok-clause-fault : goal.returns-in-Ok-clause-fault
returns-in-Ok-clause-fault c = fault_answered _ c.in-Ok.matches _ _ c.in_ok-command.ensures c.in-Ok.ensures.matches c.request_in.ensures.fault

pub returns-in-Err-clause-fault : goal.returns-in-Err-clause-fault
returns-in-Err-clause-fault c = error_met _ _ c.in-Err.error _ c.in_ok-command.ensures c.in-Err.ensures.kinds c.fault.ensures
