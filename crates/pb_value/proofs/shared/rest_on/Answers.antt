use Rattle.std.proofs.Common.{◌≡◌, List, Global, Vec, length, sym, ap, subst, ◌∙◌}
use Rattle.std.specs.Map.{keys_of, values_of}
use Rattle.pb_value.proofs.KeptNames.{kept_ordered, ordered_as, spelled-named, named_kept, length_named_kept}
use Rattle.pb_value.specs.Datum.{Datum, named}
use Rattle.pb_value.specs.Names.{kept, spelled}
use Rattle.pb_value.proofs.shared.rest_on.Goals as goal

pub returns-clause-value : goal.returns-clause-value
returns-clause-value c =
    let values : c.replace.new.b.value.items ≡ values_of c.args.row.items = ap (λ (vs : Vec Datum Global). vs.items) c.replace.ensures.after ∙ c.moved.ensures in
    let names : spelled (keys_of c.args.row.items) ≡ spelled c.in-Ok.names = c.requires.names ∙ ap spelled (sym c.in-Ok.ensures) in
    ap (λ (vs : List Datum). named (kept 0 c.in-Ok.names vs)) values ∙ named_kept c.in-Ok.names c.args.row.items names

pub returns-clause-ordered : goal.returns-clause-ordered
returns-clause-ordered c =
    let names : spelled (keys_of c.args.row.items) ≡ spelled c.in-Ok.names = c.requires.names ∙ ap spelled (sym c.in-Ok.ensures) in
    kept_ordered 0 c.in-Ok.names c.replace.new.b.value.items (ordered_as c.in-Ok.names c.args.row.items (sym names ∙ spelled-named c.args.row.items) c.requires.ordered)

pub returns-clause-all : goal.returns-clause-all
returns-clause-all c =
    let values : c.replace.new.b.value.items ≡ values_of c.args.row.items = ap (λ (vs : Vec Datum Global). vs.items) c.replace.ensures.after ∙ c.moved.ensures in
    let names : spelled (keys_of c.args.row.items) ≡ spelled c.in-Ok.names = c.requires.names ∙ ap spelled (sym c.in-Ok.ensures) in
    subst (λ (vs : List Datum). length vs ≡ length (kept 0 c.in-Ok.names vs)) (sym values) (length_named_kept c.in-Ok.names c.args.row.items names)
