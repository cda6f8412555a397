use Rattle.std.proofs.Common.{List, String, Global, Vec, string_cmp, sym, ap, subst, ◌∙◌}
use Rattle.std.specs.List.Sorted.{IsStrictlySortedBy}
use Rattle.std.specs.Map.{keys_of}
use Rattle.pb_value.proofs.Stored.{few_ordered}
use Rattle.pb_value.specs.Datum.{Datum}
use Rattle.pb_value.proofs.val.Dict.rise.Goals as goal

pub invariant_of-self : goal.invariant_of-self
invariant_of-self c =
    let same = c.risen.ensures.entries ∙ ap (λ (row : Vec (String Global × Datum) Global). row.items) c.replace-all.ensures.value in (
      subst (λ (es : List (String Global × Datum)). IsStrictlySortedBy string_cmp (keys_of es)) (sym same) (few_ordered c.self.inside.store c.in-Few.row c.in-Few.is c.self.invariant.0),
      c.risen.ensures.all,
    )
