use Rattle.std.proofs.Common.{sym, ap, ◌∙◌}
use Rattle.std.specs.Prelude.{position}
use Rattle.std.specs.BTreeMap.{insert_entry}
use Rattle.std.specs.Rc.{rc_str_bytes}
use Rattle.std.specs.Str.{bytes_eq}
use Rattle.pb_names.specs.Kept.{texts}
use Rattle.pb_names.proofs.Found.{text_cmp}
use Rattle.pb_names.proofs.Listed.{finds_more}
use Rattle.pb_names.proofs.list.NameList.add.Goals as goal

pub invariant_of-self-in-Ok : goal.invariant_of-self-in-Ok
invariant_of-self-in-Ok c = λ name.
    finds_more c.self.inside.names.items c.self.inside.numbers c.insert.new.self c.in_ok-clone.field-0 c.args.name c.self.invariant c.in_ok-clone.ensures.cases
    (ap (λ names. position (bytes_eq (rc_str_bytes c.args.name)) names) c.self.view_is ∙ c.requires)
    (c.in-Ok.ensures.entries ∙ ap (λ n. insert_entry text_cmp c.self.inside.numbers.entries c.args.name n) (c.in_ok-number.ensures ∙ c.len.ensures ∙ c.self.inside.names.ok.0)) name
    ∙ ap (λ names. position (bytes_eq name) (texts names)) (sym c.in_ok-push.ensures.items)
