use Rattle.std.proofs.Common.{string_bytes}
use Rattle.pb_facts.proofs.Restored.{stood_before}
use Rattle.pb_facts.proofs.stands.replace.Goals as goal

pub returns-clause-before : goal.returns-clause-before
returns-clause-before c =
    stood_before c.replace.result (string_bytes c.args.name) c.args.value c.args.dict.now c.replace.new.self c.replace.ensures.before c.replace.ensures.stays c.replace.ensures.ok
