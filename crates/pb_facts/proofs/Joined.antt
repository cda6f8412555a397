-- What a host learns one after another, and what it learns of facts that it is given.
use Rattle.std.proofs.Common.{◌≡◌, ◌∙◌, List, [], ◌++◌, String, Global, Vec, sym, ap}
use Rattle.pb_value.specs.Datum.{Datum, named}
use Rattle.pb_value.proofs.Named.{named-append}
use Rattle.pb_layers.specs.Scope.{Map}
use Rattle.pb_facts.specs.declared.update.FactsUpdate.{FactsUpdate}
use Rattle.pb_facts.specs.declared.update.FactsUpdate.TheVariants.{Nothing, More, Gathered}
use Rattle.pb_facts.specs.Facts.{FactsOf, merged, with_set}
use Rattle.pb_facts.specs.Update.{applied}
use Rattle.pb_facts.proofs.Over.{set_both, merged_both}

both_named : (first next both : List (String Global × Datum)) → both ≡ first ++ next → named both ≡ named first ++ named next
both_named first next both e = ap (λ (all : List (String Global × Datum)). named all) e ∙ named-append first next

both_set : (first next both : List (String Global × Datum)) (facts : FactsOf) → both ≡ first ++ next → with_set (named both) facts ≡ with_set (named next) (with_set (named first) facts)
both_set first next both facts e = set_both (named first) (named next) (named both) facts (both_named first next both e)

both_merged : (first next both : List (String Global × Datum)) (facts : FactsOf) → both ≡ first ++ next → merged (named both) facts ≡ merged (named next) (merged (named first) facts)
both_merged first next both facts e = merged_both (named first) (named next) (named both) facts (both_named first next both e)

came : (update other : FactsUpdate) (facts : FactsOf) → update ≡ other → applied other facts ≡ applied update facts
came update other facts e = sym (ap (λ (u : FactsUpdate). applied u facts) e)

-- ---- behind values
pub values_nothing : (update : FactsUpdate) (first : List (String Global × Datum)) (facts : FactsOf) → update ≡ Nothing → with_set (named first) facts ≡ applied update (with_set (named first) facts)
values_nothing update first facts e = came update Nothing (with_set (named first) facts) e

pub values_more : (update : FactsUpdate) (next : Vec (String Global × Datum) Global) (first both : List (String Global × Datum)) (facts : FactsOf) → update ≡ More next → both ≡ first ++ next.items
    → with_set (named both) facts ≡ applied update (with_set (named first) facts)
values_more update next first both facts e b = both_set first next.items both facts b ∙ came update (More next) (with_set (named first) facts) e

pub values_gathered : (update : FactsUpdate) (more given : Vec (String Global × Datum) Global) (first both : List (String Global × Datum)) (facts : FactsOf) → update ≡ Gathered more given → both ≡ first ++ more.items
    → merged (named given.items) (with_set (named both) facts) ≡ applied update (with_set (named first) facts)
values_gathered update more given first both facts e b =
    ap (merged (named given.items)) (both_set first more.items both facts b) ∙ came update (Gathered more given) (with_set (named first) facts) e

-- ---- behind values and facts that were gathered
pub facts_nothing : (update : FactsUpdate) (first given : List (String Global × Datum)) (known : FactsOf) → update ≡ Nothing
    → merged (named given) (with_set (named first) known) ≡ applied update (merged (named given) (with_set (named first) known))
facts_nothing update first given known e = came update Nothing (merged (named given) (with_set (named first) known)) e

pub facts_more : (update : FactsUpdate) (next : Vec (String Global × Datum) Global) (first given both : List (String Global × Datum)) (known : FactsOf) → update ≡ More next → both ≡ first ++ next.items
    → merged (named given) (with_set (named both) known) ≡ applied update (merged (named given) (with_set (named first) known))
facts_more update next first given both known e b =
    ap (merged (named given)) (both_set first next.items both known b) ∙ came update (More next) (merged (named given) (with_set (named first) known)) e

pub facts_gathered : (update : FactsUpdate) (more facts : Vec (String Global × Datum) Global) (first given both all : List (String Global × Datum)) (known : FactsOf) → update ≡ Gathered more facts
    → both ≡ first ++ more.items → all ≡ given ++ facts.items → merged (named all) (with_set (named both) known) ≡ applied update (merged (named given) (with_set (named first) known))
facts_gathered update more facts first given both all known e b a =
    ap (merged (named all)) (both_set first more.items both known b)
    ∙ both_merged given facts.items all (with_set (named more.items) (with_set (named first) known)) a
    ∙ came update (Gathered more facts) (merged (named given) (with_set (named first) known)) e

-- ---- of facts that are given
pub gift_set : (more : List (String Global × Datum)) (given : Map) (facts : FactsOf) → named more ≡ given → with_set (named more) facts ≡ with_set given facts
gift_set more given facts e = ap (λ (all : Map). with_set all facts) e

pub gift_gathered : (more entries : List (String Global × Datum)) (given : Map) (facts : FactsOf) → more ≡ [] → named entries ≡ given → merged (named entries) (with_set (named more) facts) ≡ merged given facts
gift_gathered more entries given facts n e =
    ap (λ (none : List (String Global × Datum)). merged (named entries) (with_set (named none) facts)) n ∙ ap (λ (all : Map). merged all facts) e
