use Rattle.pb_variables.proofs.Keeping.{none_found}
use Rattle.pb_variables.proofs.shared.Sharing.new.Goals as goal

pub invariant_of-result : goal.invariant_of-result
invariant_of-result c = none_found (λ key. key.items) c.args.inventory.now _ c.new.ensures.empty
