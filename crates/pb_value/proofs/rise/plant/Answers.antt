use Rattle.std.proofs.Common.{◌∙◌, sym, string_bytes}
use Rattle.pb_value.proofs.Named.{lookup-named}
use Rattle.pb_value.proofs.Stored.{on_err, same_length}
use Rattle.pb_value.proofs.rise.plant.Goals as goal

pub returns-clause-before : goal.returns-clause-before
returns-clause-before c = c.in_ok-before.ensures.old ∙ lookup-named (string_bytes c.args.name) c.args.tree.now.entries

pub returns-clause-stays : goal.returns-clause-stays
returns-clause-stays c = λ some. same_length c.insert.new.self.entries c.args.tree.now.entries (c.in_ok-before.ensures.keys_stay some)

pub returns-in_err-before-clause-absent : goal.returns-in_err-before-clause-absent
returns-in_err-before-clause-absent c = on_err _ (sym (lookup-named (string_bytes c.args.name) c.args.tree.now.entries) ∙ c.in_err-before.ensures.absent)
