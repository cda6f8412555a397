use Rattle.std.proofs.Common.{List, String, Global, string_bytes, string_cmp, nat_cmp, sym, ap, subst, ◌∙◌, arith}
use Rattle.std.specs.BTreeMap.{is_at}
use Rattle.std.specs.Cmp.Lexicographic.{slice_cmp}
use Rattle.std.specs.List.Sorted.{IsStrictlySortedBy}
use Rattle.std.specs.Map.{keys_of}
use Rattle.pb_value.specs.Datum.{Datum, named}
use Rattle.pb_value.specs.Place.{place_of}
use Rattle.pb_value.proofs.Ordered.{cut_ordered}
use Rattle.pb_value.proofs.Placed.{within_ok, cut_ok, cut_err}
use Rattle.pb_value.proofs.row.take_out.Goals as goal

pub returns-in-Ok-clause-entries : goal.returns-in-Ok-clause-entries
returns-in-Ok-clause-entries c =
    let is = c.in-Ok.ensures ∙ ap (λ (es : List (String Global × Datum)). place_of c.args.name.now (named es)) c.as_slice.ensures.value in
    cut_ok c.args.name.now c.args.row.now.items c.in-Ok.at c.requires is c.remove.new.self.items c.remove.ensures.items

pub returns-in-Ok-clause-ordered : goal.returns-in-Ok-clause-ordered
returns-in-Ok-clause-ordered c =
    let is = c.in-Ok.ensures ∙ ap (λ (es : List (String Global × Datum)). place_of c.args.name.now (named es)) c.as_slice.ensures.value in
    let entries = cut_ok c.args.name.now c.args.row.now.items c.in-Ok.at c.requires is c.remove.new.self.items c.remove.ensures.items in
    let ordered = cut_ordered (is_at (λ (k : String Global). slice_cmp nat_cmp c.args.name.now (string_bytes k))) c.args.row.now.items c.requires in
    subst (λ (es : List (String Global × Datum)). IsStrictlySortedBy string_cmp (keys_of es)) (sym entries) ordered

pub remove-requires : goal.remove-requires
remove-requires c =
    let is = c.in-Ok.ensures ∙ ap (λ (es : List (String Global × Datum)). place_of c.args.name.now (named es)) c.as_slice.ensures.value in
    let within = within_ok c.args.name.now c.args.row.now.items c.in-Ok.at is in
    omega (arith, within, c.args.row.now.ok.0)

pub returns-in_default-clause-entries : goal.returns-in_default-clause-entries
returns-in_default-clause-entries c =
    let is = c.in_default.ensures ∙ ap (λ (es : List (String Global × Datum)). place_of c.args.name.now (named es)) c.as_slice.ensures.value in
    cut_err c.args.name.now c.args.row.now.items c.in_default.field-0 c.requires is

pub returns-in_default-clause-ordered : goal.returns-in_default-clause-ordered
returns-in_default-clause-ordered c = c.requires
