use Rattle.std.proofs.Common.{ℕ, List, ◌∙◌, ap, string_bytes}
use Rattle.pb_facts.specs.Stood.{without}
use Rattle.pb_facts.proofs.Restored.{back_some, back_none}
use Rattle.pb_facts.proofs.stands.restore.Goals as goal

pub returns-in-Some : goal.returns-in-Some
returns-in-Some c =
    λ value was stood is. back_some (string_bytes c.args.name) c.args.before c.in-Some.value value was c.args.dict.now c.put_over.new.dict c.in-Some.is stood is c.put_over.ensures

pub returns-in-None : goal.returns-in-None
returns-in-None c =
    λ value was stood is. back_none (string_bytes c.args.name) c.args.before value was c.args.dict.now c.forget.new.dict c.in-None.is stood is (c.forget.ensures ∙ ap (λ (bytes : List ℕ). without bytes c.args.dict.now) c.as_str.ensures.value)
