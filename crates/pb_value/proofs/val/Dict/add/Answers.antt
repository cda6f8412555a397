use Rattle.std.proofs.Common.{string_bytes, refl, ap, ◌∙◌}
use Rattle.pb_value.proofs.Named.{named-insert_entry}
use Rattle.pb_value.proofs.Stored.{few_named, many_named}
use Rattle.pb_value.specs.Datum.{named, put}
use Rattle.pb_value.proofs.val.Dict.add.Goals.{in-Few+in_ok-put_in-in-Few, in-Many+in_ok-plant-in-Many}
use Rattle.pb_value.proofs.val.Dict.add.Goals as goal

pub returns : goal.returns
returns c =
    elim c.match-self.branch [
      | in-Few+in_ok-put_in-in-Few w ↦ rw w.self-inside-is
          (ap named w.in_ok-put_in-in-Few.ensures.entries ∙ named-insert_entry w.in-Few.row.items c.args.name c.args.value
          ∙ ap (put (string_bytes c.args.name) c.args.value) (few_named c.self.inside.store w.in-Few.row c.args.self.now c.args.self.now w.in-Few.is c.self.view_is refl))
      | in-Many+in_ok-plant-in-Many w ↦ rw w.self-inside-is
          (ap named w.in_ok-plant-in-Many.ensures.entries ∙ named-insert_entry w.in-Many.tree.entries c.args.name c.args.value
          ∙ ap (put (string_bytes c.args.name) c.args.value) (many_named c.self.inside.store w.in-Many.tree c.args.self.now c.args.self.now w.in-Many.is c.self.view_is refl))
    ]
