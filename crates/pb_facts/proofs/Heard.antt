-- What is known once what was before is put back.
use Rattle.std.proofs.Common.{◌≡◌, ◌∙◌, String, Global, Vec, List, ap, sym, subst}
use Rattle.std.specs.Prelude.{Option}
use Rattle.pb_value.specs.Datum.{Datum, named}
use Rattle.pb_layers.specs.Scope.{Map}
use Rattle.pb_facts.specs.declared.update.FactsUndo.{FactsUndo}
use Rattle.pb_facts.specs.declared.update.FactsUndo.TheVariants.{Nothing, Stood, Gathered}
use Rattle.pb_facts.specs.Facts.{FactsOf}
use Rattle.pb_facts.specs.Update.{IsUndo, LeadsTo}
use Rattle.pb_facts.proofs.Over.{facts_of, same_facts}

-- ---- by its parts
pub set_back : (layer : Option Map) (set new : Map) (old : FactsOf) (log : List (String Global × Option Datum)) → facts_of layer set ≡ old → ((m : Map) → LeadsTo (named log) m set → new ≡ m)
    → (was : FactsOf) → was.gathered ≡ old.gathered → LeadsTo (named log) was.set old.set → facts_of layer new ≡ was
set_back layer set new old log v back was g l =
    same_facts layer was.gathered new was.set (ap (λ (f : FactsOf). f.gathered) v ∙ sym g) (back was.set (subst (λ (f : FactsOf). LeadsTo (named log) was.set f.set) (sym v) l))

pub layer_back : (gathered layer : Option Map) (set new : Map) (old : FactsOf) (log : List (String Global × Option Datum)) → facts_of gathered set ≡ old → ((m : Map) → LeadsTo (named log) m set → new ≡ m)
    → (was : FactsOf) → layer ≡ was.gathered → LeadsTo (named log) was.set old.set → facts_of layer new ≡ was
layer_back gathered layer set new old log v back was g l =
    same_facts layer was.gathered new was.set g (back was.set (subst (λ (f : FactsOf). LeadsTo (named log) was.set f.set) (sym v) l))

-- ---- by what was kept
pub back_nothing : (past : FactsUndo) (was now : FactsOf) → past ≡ Nothing → IsUndo past was now → now ≡ was
back_nothing past was now e p = sym (subst (λ (q : FactsUndo). IsUndo q was now) e p)

pub back_stood : (past : FactsUndo) (log : Vec (String Global × Option Datum) Global) (now new : FactsOf) → past ≡ Stood log
    → ((w : FactsOf) → w.gathered ≡ now.gathered → LeadsTo (named log.items) w.set now.set → new ≡ w) → (was : FactsOf) → IsUndo past was now → new ≡ was
back_stood past log now new e back was p = let stood = subst (λ (q : FactsUndo). IsUndo q was now) e p in back was stood.0 stood.1

pub back_gathered : (past : FactsUndo) (stood facts : Vec (String Global × Option Datum) Global) (layer : Option Map) (now new : FactsOf) → past ≡ Gathered stood facts layer
    → ((w : FactsOf) → layer ≡ w.gathered → LeadsTo (named stood.items) w.set now.set → new ≡ w) → (was : FactsOf) → IsUndo past was now → new ≡ was
back_gathered past stood facts layer now new e back was p = let before = subst (λ (q : FactsUndo). IsUndo q was now) e p in back was before.0 before.1
