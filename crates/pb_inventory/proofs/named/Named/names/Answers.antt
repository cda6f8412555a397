use Rattle.std.proofs.Common.{◌∙◌}
use Rattle.std.proofs.lemmas.Result.{IfOk-weaker}
use Rattle.pb_inventory.proofs.Entries.{keys_zip}
use Rattle.pb_inventory.proofs.named.Named.names.Goals as goal

pub returns : goal.returns
returns g c =
    rw (← c.self.view_is)
    (IfOk-weaker c.names_of.result _ _ (λ names is. is ∙ keys_zip c.self.inside.names c.self.inside.values.items c.self.invariant) c.names_of.ensures)
