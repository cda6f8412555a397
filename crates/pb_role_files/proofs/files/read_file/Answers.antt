use Rattle.serde_json.specs.View.{view}
use Rattle.pb_role_files.proofs.Spelt.{not_json, file_is, file_stopped}
use Rattle.pb_role_files.proofs.files.read_file.Goals as goal

pub returns-in-Err-NotJson-clause-fault : goal.returns-in-Err-NotJson-clause-fault
returns-in-Err-NotJson-clause-fault g c =
    λ other. let seen = c.in-Err-NotJson.field-0-is in not_json g.R.Reads.reads c.args.bytes.now (c.in-Err-NotJson.ensures.fault (λ memory. cc))

pub returns-in-Ok-read_whole-clause-value : goal.returns-in-Ok-read_whole-clause-value
returns-in-Ok-read_whole-clause-value g c = file_is g.R.Reads.reads c.args.bytes.now (view c.in-Ok.json) c.in-Ok-read_whole.value c.in-Ok.ensures.value c.in-Ok-read_whole.ensures

pub returns-clause-fault : goal.returns-clause-fault
returns-clause-fault g c =
    file_stopped g.R.Reads.reads c.args.bytes.now (view c.in-Ok.json) c.in-Err.stop c.fault_of.result c.in-Ok.ensures.value c.in-Err.ensures c.fault_of.ensures.memory c.fault_of.ensures.wrong c.fault_of.ensures.fault
