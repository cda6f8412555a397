use Rattle.std.proofs.Common.{refl}
use Rattle.serde_json.specs.View.{view}
use Rattle.pb_written.specs.declared.fault.LoadFault.TheVariants.{NotJson}
use Rattle.pb_play_reading.proofs.Refusable.{not_json, playbook_stopped, playbook_is, playbook_taken}
use Rattle.pb_play_reading.proofs.playbook.Playbook.read.Goals as goal

pub returns-in-Err-NotJson-clause-fault : goal.returns-in-Err-NotJson-clause-fault
returns-in-Err-NotJson-clause-fault c =
    λ other. let seen = c.in-Err-NotJson.field-0-is in not_json c.args.bytes.now NotJson (c.in-Err-NotJson.ensures.fault (λ memory. cc)) refl

pub returns-in-Ok-read_plays-clause-value : goal.returns-in-Ok-read_plays-clause-value
returns-in-Ok-read_plays-clause-value c = playbook_is c.args.bytes.now (view c.in-Ok.json) c.in-Ok-read_plays.plays c.in-Ok.ensures.value c.in-Ok-read_plays.ensures.value.1

pub returns-in-Ok-read_plays-clause-taken : goal.returns-in-Ok-read_plays-clause-taken
returns-in-Ok-read_plays-clause-taken c = playbook_taken c.args.bytes.now (view c.in-Ok.json) c.in-Ok.ensures.value c.in-Ok-read_plays.ensures.value.0

pub returns-clause-fault : goal.returns-clause-fault
returns-clause-fault c =
    playbook_stopped c.args.bytes.now (view c.in-Ok.json) c.in-Err.stop c.fault_of.result c.in-Ok.ensures.value c.in-Err.ensures.value c.fault_of.ensures.memory c.fault_of.ensures.wrong c.fault_of.ensures.fault
