use Rattle.std.proofs.Common.{◌≡◌, ℕ, List, String, Global, Vec, length, take, string_cmp, sym, ap, subst, ◌∙◌}
use Rattle.std.specs.Prelude.{zip}
use Rattle.std.specs.List.Sorted.{IsStrictlySortedBy}
use Rattle.pb_value.proofs.KeptNames.{kept_ordered, length_taken, zip_kept}
use Rattle.pb_value.specs.Datum.{Datum, named}
use Rattle.pb_value.specs.Names.{kept, spelled}
use Rattle.pb_value.proofs.val.Dict.of_names.Goals as goal

pub invariant_of-result : goal.invariant_of-result
invariant_of-result c =
    let names : List (String Global) = c.in_ok-try_clone.field-0 in
    let values : c.in_ok-new.field-0.value.items ≡ take (length names) c.args.values.items =
    ap (λ (vs : Vec Datum Global). vs.items) c.in_ok-new.ensures.ok
    ∙ (c.truncate.ensures.items ∙ ap (λ (ns : List (String Global)). take (length ns) c.args.values.items) (c.as_slice.ensures.value ∙ sym c.in_ok-try_clone.ensures)) in (
      kept_ordered 0 names c.in_ok-new.field-0.value.items (subst (λ (ns : List (String Global)). IsStrictlySortedBy string_cmp ns) (sym c.in_ok-try_clone.ensures) c.as_slice.ensures.ordered),
      subst (λ (vs : List Datum). length vs ≡ length (kept 0 names vs)) (sym values) (length_taken names c.args.values.items),
    )

pub returns : goal.returns
returns c =
    let names : List (String Global) = c.in_ok-try_clone.field-0 in
    let values : c.in_ok-new.field-0.value.items ≡ take (length names) c.args.values.items =
    ap (λ (vs : Vec Datum Global). vs.items) c.in_ok-new.ensures.ok
    ∙ (c.truncate.ensures.items ∙ ap (λ (ns : List (String Global)). take (length ns) c.args.values.items) (c.as_slice.ensures.value ∙ sym c.in_ok-try_clone.ensures)) in
    ap (λ (vs : List Datum). named (kept 0 names vs)) values ∙ zip_kept names c.args.values.items
    ∙ ap (λ (ks : List (List ℕ)). zip ks c.args.values.items) (ap spelled c.in_ok-try_clone.ensures ∙ c.names.view_is)
