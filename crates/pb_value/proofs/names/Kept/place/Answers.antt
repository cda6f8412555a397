use Rattle.std.proofs.Common.{◌≡◌, List, String, Global, string_cmp, sym, ap, subst, ◌∙◌}
use Rattle.std.specs.List.Sorted.{IsStrictlySortedBy}
use Rattle.pb_value.specs.Datum.{named}
use Rattle.pb_value.specs.Names.{paired}
use Rattle.pb_value.specs.Place.{place_of}
use Rattle.pb_value.proofs.KeptNames.{few_places}
use Rattle.pb_value.proofs.names.Kept.place.Goals as goal

pub place_among-requires : goal.place_among-requires
place_among-requires c = subst (λ (ns : List (String Global)). IsStrictlySortedBy string_cmp ns) (sym c.as_slice.ensures.value) c.as_slice.ensures.ordered

pub returns-clause-value : goal.returns-clause-value
returns-clause-value c = c.place_among.ensures ∙ ap (λ (ns : List (String Global)). place_of c.args.name.now (named (paired ns))) c.as_slice.ensures.value

pub returns-clause-ordered : goal.returns-clause-ordered
returns-clause-ordered c = c.as_slice.ensures.ordered

pub returns-clause-few : goal.returns-clause-few
returns-clause-few c = few_places c.args.name.now c.args.self.now c.place_among.result (returns-clause-value c) c.as_slice.ensures.few
