-- What a finished task leaves with its host, by what its module gives, comes to the values and facts under their names.
use Rattle.std.proofs.Common.{◌≡◌, ◌∙◌, ℕ, true, false, List, ◌++◌, Option, Some, None, refl, ap, sym}
use Rattle.pb_value.specs.Datum.{Datum}
use Rattle.pb_layers.specs.Scope.{Map}
use Rattle.pb_outcome.specs.declared.item.Item.{Item}
use Rattle.pb_facts.specs.declared.facts.Gives.TheVariants.{Nothing, Sets, Gathers}
use Rattle.pb_facts.specs.Facts.{FactsOf, given_in, merged, with_set, with_registered, learnt}
use Rattle.pb_facts.specs.Update.{entries_in, gives_some, registered_entries}
use Rattle.pb_facts.proofs.Each.{each_nothing, each_set, each_gathered, none_gathered}
use Rattle.pb_facts.proofs.Over.{set_both}

pub nothing_learnt : (register : Option (List ℕ)) (result : Datum) (items : List Item) (facts : FactsOf) → learnt Nothing register result items facts ≡ with_registered register result facts
nothing_learnt register result items facts = each_nothing (given_in items) (with_registered register result facts)

pub registered_applied : (entries : Map) (register : Option (List ℕ)) (shown : Datum) (facts : FactsOf) → entries ≡ registered_entries register shown → with_set entries facts ≡ with_registered register shown facts
registered_applied entries register shown facts e = ap (λ (all : Map). with_set all facts) e ∙ by_register register
  where
    by_register : (r : Option (List ℕ)) → with_set (registered_entries r shown) facts ≡ with_registered r shown facts
    by_register None = refl
    by_register (Some name) = refl

pub set_applied : (entries : Map) (register : Option (List ℕ)) (shown : Datum) (items : List Item) (facts : FactsOf) → entries ≡ registered_entries register shown ++ entries_in (given_in items)
    → with_set entries facts ≡ learnt Sets register shown items facts
set_applied entries register shown items facts e =
    set_both (registered_entries register shown) (entries_in (given_in items)) entries facts e
    ∙ ap (with_set (entries_in (given_in items))) (registered_applied (registered_entries register shown) register shown facts refl)
    ∙ each_set (given_in items) (with_registered register shown facts)

-- no item has facts
pub none_applied : (more : Map) (register : Option (List ℕ)) (shown : Datum) (items : List Item) (facts : FactsOf) → more ≡ registered_entries register shown → gives_some (given_in items) ≡ false
    → with_set more facts ≡ learnt Gathers register shown items facts
none_applied more register shown items facts m n = registered_applied more register shown facts m ∙ sym (none_gathered (given_in items) (with_registered register shown facts) n)

pub gathered_applied : (more given : Map) (register : Option (List ℕ)) (shown : Datum) (items : List Item) (facts : FactsOf) → more ≡ registered_entries register shown → given ≡ entries_in (given_in items)
    → gives_some (given_in items) ≡ true → merged given (with_set more facts) ≡ learnt Gathers register shown items facts
gathered_applied more given register shown items facts m g s =
    ap (λ (all : Map). merged all (with_set more facts)) g
    ∙ ap (merged (entries_in (given_in items))) (registered_applied more register shown facts m)
    ∙ each_gathered (given_in items) (with_registered register shown facts) s
