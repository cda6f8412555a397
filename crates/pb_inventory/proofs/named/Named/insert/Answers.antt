use Rattle.std.proofs.Common.{◌∙◌, ap, sym, string_bytes}
use Rattle.std.specs.Prelude.{position}
use Rattle.std.specs.Str.{bytes_eq}
use Rattle.pb_inventory.proofs.Entries.{under_none, replaced, last_entry}
use Rattle.pb_inventory.proofs.named.Named.insert.Goals as goal

pub add-requires : goal.add-requires
add-requires g c =
    rw (← c.self.view_is) (sym (under_none (string_bytes c.args.name) c.self.inside.names c.self.inside.values.items (c.in-None.ensures ∙ ap (λ t. position (bytes_eq t) c.self.inside.names) c.as_str.ensures.value)))

pub returns-in-Some-clause-ok : goal.returns-in-Some-clause-ok
returns-in-Some-clause-ok g c =
    rw (← c.self.view_is) (replaced (string_bytes c.args.name) c.args.value c.self.inside.names c.self.inside.values.items c.in-Some.number c.self.invariant
    (c.in-Some.ensures ∙ ap (λ t. position (bytes_eq t) c.self.inside.names) c.as_str.ensures.value))

pub returns-in_ok-add-in-None-clause-ok : goal.returns-in_ok-add-in-None-clause-ok
returns-in_ok-add-in-None-clause-ok g c =
    let none = under_none (string_bytes c.args.name) c.self.inside.names c.self.inside.values.items (c.in-None.ensures ∙ ap (λ t. position (bytes_eq t) c.self.inside.names) c.as_str.ensures.value) in
    c.in_ok-add-in-None.ensures.ok ∙ last_entry (string_bytes c.args.name) c.args.value c.args.self.now (rw (← c.self.view_is) (sym none))
