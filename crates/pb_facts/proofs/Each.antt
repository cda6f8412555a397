-- What the facts of several items come to, and what stands in the layer of gathered facts.
use Rattle.std.proofs.Common.{◌≡◌, ◌∙◌, true, false, List, [], ◌∷◌, ◌++◌, Option, Some, None, codes, unwrap_or, refl, ap}
use Rattle.pb_value.specs.Datum.{dict, members_of}
use Rattle.pb_value.proofs.Lists.{entries_of-members_of}
use Rattle.pb_value.proofs.Puts.{value_at-put}
use Rattle.pb_layers.specs.Scope.{Map}
use Rattle.pb_facts.specs.declared.facts.Gives.TheVariants.{Nothing, Sets, Gathers}
use Rattle.pb_facts.specs.Facts.{FactsOf, put_all, merged, with_set, with_each, gathered_layer, gathered_in, facts_under}
use Rattle.pb_facts.specs.Update.{entries_in, gives_some}
use Rattle.pb_facts.proofs.Over.{facts_of, set_both, merged_both}

pub each_nothing : (given : List Map) (facts : FactsOf) → with_each Nothing given facts ≡ facts
each_nothing [] facts = refl
each_nothing (g ∷ gs) facts = each_nothing gs facts

pub each_set : (given : List Map) (facts : FactsOf) → with_set (entries_in given) facts ≡ with_each Sets given facts
each_set [] facts = refl
each_set (g ∷ gs) facts = set_both g (entries_in gs) (g ++ entries_in gs) facts refl ∙ each_set gs (with_set g facts)

-- over facts that are there
each_over : (given : List Map) (known set : Map) → merged (entries_in given) (facts_of (Some known) set) ≡ with_each Gathers given (facts_of (Some known) set)
each_over [] known set = refl
each_over (g ∷ gs) known set = merged_both g (entries_in gs) (g ++ entries_in gs) (facts_of (Some known) set) refl ∙ each_over gs (put_all g known) set

pub each_gathered : (given : List Map) (facts : FactsOf) → gives_some given ≡ true → merged (entries_in given) facts ≡ with_each Gathers given facts
each_gathered [] facts e = cc
each_gathered (g ∷ gs) facts e = merged_both g (entries_in gs) (g ++ entries_in gs) facts refl ∙ each_over gs (put_all g (unwrap_or facts.gathered [])) facts.set

pub none_gathered : (given : List Map) (facts : FactsOf) → gives_some given ≡ false → with_each Gathers given facts ≡ facts
none_gathered [] facts e = refl
none_gathered (g ∷ gs) facts e = cc

-- a layer has the facts of which it is made
pub layer_gathers : (gathered : Option Map) → gathered_in (gathered_layer gathered) ≡ gathered
layer_gathers None = refl
layer_gathers (Some facts) = ap facts_under (value_at-put (codes "ansible_facts") (dict (members_of facts)) facts) ∙ ap Some (entries_of-members_of facts)

pub layer_made : (layer : Map) (gathered : Option Map) → layer ≡ gathered_layer gathered → gathered_in layer ≡ gathered
layer_made layer gathered e = ap gathered_in e ∙ layer_gathers gathered

pub layer_stands : (layer : Map) (gathered : Option Map) → layer ≡ gathered_layer gathered → layer ≡ gathered_layer (gathered_in layer)
layer_stands layer gathered e = rw (layer_made layer gathered e) e
