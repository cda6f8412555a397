-- What a host learns comes to what it learns, and what was before is what is put back.
use Rattle.std.proofs.Common.{◌≡◌, ℕ, List, [], ◌∷◌, ◌++◌, length, String, Global, Vec, string_bytes, refl, sym, ◌∙◌, ap, subst, arith, append_assoc}
use Rattle.std.specs.Prelude.{Option, Some, option_to_list, unwrap_or}
use Rattle.pb_value.specs.Datum.{Datum, named, put}
use Rattle.pb_facts.specs.Stood.{StoodThere}
use Rattle.pb_value.proofs.Named.{named-append}
use Rattle.pb_layers.specs.Scope.{Map}
use Rattle.pb_facts.specs.declared.update.FactsUndo.TheVariants.{Gathered}
use Rattle.pb_facts.specs.Facts.{FactsOf, put_all, merged, with_set}
use Rattle.pb_facts.specs.Update.{GatheredUnder, IsBetween, IsOrdered, IsUndo, LeadsTo}
use Rattle.pb_facts.proofs.Over.{facts_of, same_facts}

-- ---- the entries
pub entry_more : (xs new : List (String Global × Datum)) (copy : String Global) (name : List ℕ) (value : Datum) → string_bytes copy ≡ name → new ≡ xs ++ (copy, value) ∷ [] → named new ≡ named xs ++ (name, value) ∷ []
entry_more xs new copy name value e n = ap (λ (all : List (String Global × Datum)). named all) n ∙ named-append xs ((copy, value) ∷ []) ∙ ap (λ (bytes : List ℕ). named xs ++ (bytes, value) ∷ []) e

pub rest_on : (old new rest whole : Map) (e : List ℕ × Datum) → new ≡ old ++ e ∷ [] → old ++ e ∷ rest ≡ whole → new ++ rest ≡ whole
rest_on old new rest whole e n w = ap (λ (all : Map). all ++ rest) n ∙ append_assoc old (e ∷ []) rest ∙ w

pub facts_on : (old new given rest whole : Map) → new ≡ old ++ given → old ++ (given ++ rest) ≡ whole → new ++ rest ≡ whole
facts_on old new given rest whole n w = ap (λ (all : Map). all ++ rest) n ∙ append_assoc old given rest ∙ w

-- entries behind none
pub entries_all : (first new : List (String Global × Datum)) (given : Map) → first ≡ [] → named new ≡ named first ++ given → named new ≡ given
entries_all first new given e n = n ∙ ap (λ (all : List (String Global × Datum)). named all ++ given) e

-- ---- what was before
leads_more : (log : List (List ℕ × Option Datum)) (k : List ℕ) (before : Option Datum) (value : Datum) (was mid now : Map) → LeadsTo log was mid → StoodThere k before value mid → now ≡ put k value mid → LeadsTo (log ++ (k, before) ∷ []) was now
leads_more [] k before value was mid now l s n = (value, subst (λ (m : Map). StoodThere k before value m) (sym l) s, ap (put k value) l ∙ sym n)
leads_more (b ∷ log) k before value was mid now l s n = (l.0, l.1, leads_more log k before value (put b.0 l.0 was) mid now l.2 s n)

leads_less : (log : List (List ℕ × Option Datum)) (k : List ℕ) (before : Option Datum) (was now new : Map) → LeadsTo (log ++ (k, before) ∷ []) was now
    → ((value : Datum) (mid : Map) → StoodThere k before value mid → now ≡ put k value mid → new ≡ mid) → LeadsTo log was new
leads_less [] k before was now new l back = sym (back l.0 was l.1 (sym l.2))
leads_less (b ∷ log) k before was now new l back = (l.0, l.1, leads_less log k before (put b.0 l.0 was) now new l.2 back)

log_more : (old new : List (String Global × Option Datum)) (copy : String Global) (name : List ℕ) (before : Option Datum) → string_bytes copy ≡ name → new ≡ old ++ (copy, before) ∷ [] → named new ≡ named old ++ (name, before) ∷ []
log_more old new copy name before e n = ap (λ (all : List (String Global × Option Datum)). named all) n ∙ named-append old ((copy, before) ∷ []) ∙ ap (λ (bytes : List ℕ). named old ++ (bytes, before) ∷ []) e

-- a value came, and was put down
pub leads_on : (old new : List (String Global × Option Datum)) (copy : String Global) (name : List ℕ) (before : Option Datum) (value : Datum) (set now : Map) → string_bytes copy ≡ name → new ≡ old ++ (copy, before) ∷ []
    → StoodThere name before value set → now ≡ put name value set → (was : Map) → LeadsTo (named old) was set → LeadsTo (named new) was now
leads_on old new copy name before value set now e n s p was l =
    subst (λ (log : List (List ℕ × Option Datum)). LeadsTo log was now) (sym (log_more old new copy name before e n)) (leads_more (named old) name before value was set now l s p)

-- the last of them is taken back
pub leads_back : (found : Option (String Global × Option Datum)) (last : String Global × Option Datum) (all left : List (String Global × Option Datum)) (set new : Map) → all ≡ left ++ option_to_list found → found ≡ Some last
    → ((value : Datum) (was : Map) → StoodThere (string_bytes last.0) last.1 value was → set ≡ put (string_bytes last.0) value was → new ≡ was) → (was : Map) → LeadsTo (named all) was set → LeadsTo (named left) was new
leads_back found last all left set new a f back was l =
    let pushed : all ≡ left ++ last ∷ [] = a ∙ ap (λ (o : Option (String Global × Option Datum)). left ++ option_to_list o) f in
    leads_less (named left) (string_bytes last.0) last.1 was set new
    (subst (λ (log : List (List ℕ × Option Datum)). LeadsTo log was set) (log_more left all last.0 (string_bytes last.0) last.1 refl pushed) l) back

pub leads_end : (left : List (String Global × Option Datum)) (was set : Map) → length left ≡ 0 → LeadsTo (named left) was set → set ≡ was
leads_end [] was set e l = sym l
leads_end (x ∷ left) was set e l = absurd (omega (arith, e))

-- nothing came, and nothing was put down
pub leads_same : (old new : List (String Global × Option Datum)) (set now : Map) → new ≡ old → now ≡ set → (was : Map) → LeadsTo (named old) was set → LeadsTo (named new) was now
leads_same old new set now n s was l =
    subst (λ (log : List (String Global × Option Datum)). LeadsTo (named log) was now) (sym n) (subst (λ (m : Map). LeadsTo (named old) was m) (sym s) l)

-- what came since an empty log came to this
pub leads_first : (first log : List (String Global × Option Datum)) (set now : Map) → first ≡ [] → ((was : Map) → LeadsTo (named first) was set → LeadsTo (named log) was now) → LeadsTo (named log) set now
leads_first first log set now e came = came set (subst (λ (all : List (String Global × Option Datum)). LeadsTo (named all) set set) (sym e) refl)

-- one value of those that come
pub put_step : (all rest : List (String Global × Datum)) (name : String Global) (value : Datum) (set now whole : Map) → all ≡ (name, value) ∷ rest → now ≡ put (string_bytes name) value set → put_all (named all) set ≡ whole
    → put_all (named rest) now ≡ whole
put_step all rest name value set now whole a n w = ap (put_all (named rest)) n ∙ subst (λ (es : List (String Global × Datum)). put_all (named es) set ≡ whole) a w

-- ---- what was gathered
pub gathered_on : (was layer : Option Map) (log : List (String Global × Option Datum)) (known new : Map) → known ≡ unwrap_or was [] → IsOrdered known → LeadsTo (named log) known new → layer ≡ Some new → GatheredUnder (named log) was layer
gathered_on was layer log known new k o l n = (subst (λ (m : Map). IsOrdered m) k o, new, subst (λ (m : Map). LeadsTo (named log) m new) k l, n)

pub merged_in_place : (layer made : Option Map) (set given : Map) (old : FactsOf) → facts_of layer set ≡ old → made ≡ Some (put_all given (unwrap_or layer [])) → facts_of made set ≡ merged given old
merged_in_place layer made set given old v m = ap (λ (g : Option Map). facts_of g set) m ∙ ap (merged given) v

-- values and facts came over what a host knew
pub gathered_in_place : (layer made : Option Map) (set now more given : Map) (old : FactsOf) → facts_of layer set ≡ old → made ≡ Some (put_all given (unwrap_or layer [])) → now ≡ put_all more set
    → facts_of made now ≡ merged given (with_set more old)
gathered_in_place layer made set now more given old v m n =
    same_facts made (Some (put_all given (unwrap_or layer []))) now (put_all more set) m n ∙ ap (λ (f : FactsOf). merged given (with_set more f)) v

pub undo_in_place : (stood facts : Vec (String Global × Option Datum) Global) (layer before new : Option Map) (set now : Map) (old : FactsOf) → facts_of layer set ≡ old → before ≡ layer → LeadsTo (named stood.items) set now
    → IsUndo (Gathered stood facts before) old (facts_of new now)
undo_in_place stood facts layer before new set now old v b l = subst (λ (f : FactsOf). IsUndo (Gathered stood facts before) f (facts_of new now)) v (b, l)

pub between_in_place : (stood facts : Vec (String Global × Option Datum) Global) (layer before made new : Option Map) (set now : Map) (old : FactsOf) → facts_of layer set ≡ old → new ≡ made → IsOrdered set
    → LeadsTo (named stood.items) set now → GatheredUnder (named facts.items) layer made → IsBetween (Gathered stood facts before) old (facts_of new now)
between_in_place stood facts layer before made new set now old v n o l g =
    subst (λ (f : FactsOf). IsBetween (Gathered stood facts before) f (facts_of new now)) v (o, l, subst (λ (m : Option Map). GatheredUnder (named facts.items) layer m) (sym n) g)
