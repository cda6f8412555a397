use Rattle.std.proofs.Common.{◌∙◌, ap}
use Rattle.std.specs.Prelude.{slice_get}
use Rattle.pb_inventory.proofs.Entries.{under_some, under_none}
use Rattle.pb_inventory.proofs.named.Named.get.Goals as goal

pub returns-in-Some : goal.returns-in-Some
returns-in-Some g c =
    rw (← c.self.view_is) (c.nth.ensures ∙ ap (λ values. slice_get values c.in-Some.number) c.as_slice.ensures.value ∙ under_some c.args.name.now c.self.inside.names c.self.inside.values.items c.in-Some.number c.in-Some.ensures)

pub returns-in-None : goal.returns-in-None
returns-in-None g c =
    rw (← c.self.view_is) (under_none c.args.name.now c.self.inside.names c.self.inside.values.items c.in-None.ensures)
