use Rattle.std.proofs.Common.{◌∙◌, ap, string_bytes}
use Rattle.pb_inventory.specs.Named.{under}
use Rattle.pb_inventory.proofs.Entries.{new_name, still_long, zip-push}
use Rattle.pb_inventory.proofs.named.Named.add.Goals as goal

pub invariant_of-self-in-Ok : goal.invariant_of-self-in-Ok
invariant_of-self-in-Ok g c =
    let none = ap (λ es. under (string_bytes c.args.name) es) c.self.view_is ∙ c.requires in
    rw (c.in-Ok.ensures.ok, new_name (string_bytes c.args.name) c.self.inside.names c.self.inside.values.items c.self.invariant none, c.in_ok-push.ensures.items)
    (still_long (string_bytes c.args.name) c.self.inside.names c.self.inside.values.items c.args.value c.self.invariant)

pub returns-in-Ok-clause-ok : goal.returns-in-Ok-clause-ok
returns-in-Ok-clause-ok g c =
    let none = ap (λ es. under (string_bytes c.args.name) es) c.self.view_is ∙ c.requires in
    rw (c.in-Ok.ensures.ok, new_name (string_bytes c.args.name) c.self.inside.names c.self.inside.values.items c.self.invariant none, c.in_ok-push.ensures.items, ← c.self.view_is)
    (zip-push c.self.inside.names c.self.inside.values.items (string_bytes c.args.name) c.args.value c.self.invariant)
