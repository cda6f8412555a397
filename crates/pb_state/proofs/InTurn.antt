-- Hosts learn something one after another: where each does once, the map of all hosts' variables follows them one by one.
use Rattle.std.proofs.Common.{◌≡◌, ◌≢◌, ◌∙◌, ℕ, ◌≤◌, ◌<◌, Bool, true, false, not, ◌&&◌, List, [], ◌∷◌, Option, Some, None, refl, sym, ap, subst, arith}
use Rattle.std.specs.Prelude.{◌==◌, nat_lt}
use Rattle.std.proofs.lemmas.Bool.{and_from, and_parts, eqb-false, eqb-true, ltb-true, or_from, or_parts}
use Rattle.pb_value.specs.Datum.{Datum}
use Rattle.pb_ids.specs.declared.numbers.HostNo.{HostNo}
use Rattle.pb_inventory.specs.InventoryOf.{InventoryOf}
use Rattle.pb_facts.specs.Book.{row_of}
use Rattle.pb_facts.specs.Facts.{FactsOf}
use Rattle.pb_facts.specs.Update.{IsBetween}
use Rattle.pb_facts.specs.declared.update.FactsUndo.{FactsUndo}
use Rattle.pb_variables.specs.Magic.{hostvars, hosts_magic}
use Rattle.pb_variables.specs.Renewed.{IsRenewedBetween}
use Rattle.pb_hosts.specs.Applied.{LearnInTurn}
use Rattle.pb_state.specs.Learners.{each_once, is_among, is_higher, rises, IsRenewedInTurn}

abbrev pub Entry : Type 0
Entry = HostNo × FactsUndo

abbrev pub Map : Type 0
Map = List (List ℕ × Datum)

-- nobody learnt anything
pub nobody_learnt : (log : List Entry) (before now : List FactsOf) → log ≡ [] → before ≡ now → LearnInTurn log before now
nobody_learnt log before now none same = subst (λ (all : List Entry). LearnInTurn all before now) (sym none) same

-- ---- the numbers of hosts
pub rises_more : (last : Option HostNo) (one : Entry) (log rest : List Entry) (whole : Bool) → log ≡ one ∷ rest → is_higher last one.0 ≡ true → rises last log ≡ whole → rises (Some one.0) rest ≡ whole
rises_more last one log rest whole e higher w = ap (λ (b : Bool). b && rises (Some one.0) rest) (sym higher) ∙ sym (ap (rises last) e) ∙ w

pub rises_not : (last : Option HostNo) (one : Entry) (log rest : List Entry) (whole : Bool) → log ≡ one ∷ rest → is_higher last one.0 ≡ false → rises last log ≡ whole → false ≡ whole
rises_not last one log rest whole e lower w = ap (λ (b : Bool). b && rises (Some one.0) rest) (sym lower) ∙ sym (ap (rises last) e) ∙ w

pub rises_end : (last : Option HostNo) (log : List Entry) (whole : Bool) → log ≡ [] → rises last log ≡ whole → true ≡ whole
rises_end last log whole e w = sym (ap (rises last) e) ∙ w

-- ---- hosts that stand there once
pub once_more : (one : Entry) (log rest : List Entry) (whole : Bool) → log ≡ one ∷ rest → is_among rest one.0.0 ≡ false → each_once log ≡ whole → each_once rest ≡ whole
once_more one log rest whole e none w = ap (λ (b : Bool). not b && each_once rest) (sym none) ∙ sym (ap each_once e) ∙ w

pub once_not : (one : Entry) (log rest : List Entry) (whole : Bool) → log ≡ one ∷ rest → is_among rest one.0.0 ≡ true → each_once log ≡ whole → false ≡ whole
once_not one log rest whole e some w = ap (λ (b : Bool). not b && each_once rest) (sym some) ∙ sym (ap each_once e) ∙ w

pub once_end : (log : List Entry) (whole : Bool) → log ≡ [] → each_once log ≡ whole → true ≡ whole
once_end log whole e w = sym (ap each_once e) ∙ w

is_none_of : (a b : ℕ) → a ≢ b → (c : Bool) → (a == b) ≡ c → (a == b) ≡ false
is_none_of a b apart true e = absurd (apart (eqb-true a b e))
is_none_of a b apart false e = e

-- where numbers rise, one that is no higher than the last isn't among them
higher_apart : (log : List Entry) (last : HostNo) (h : ℕ) → h ≤ last.0 → rises (Some last) log ≡ true → is_among log h ≡ false
higher_apart [] last h le up = refl
higher_apart (one ∷ log) last h le up =
    let parts = and_parts (nat_lt last.0 one.0.0) (rises (Some one.0) log) up in
    let over : last.0 < one.0.0 = ltb-true last.0 one.0.0 parts.0 in
    let below : h ≤ one.0.0 = omega (arith, le, over) in
    let apart : one.0.0 ≢ h = omega (arith, le, over) in
    or_from (one.0.0 == h) (is_among log h) (is_none_of one.0.0 h apart (one.0.0 == h) refl) (higher_apart log one.0 h below parts.1)

-- so each stands there once
pub once_rising : (log : List Entry) (last : Option HostNo) → rises last log ≡ true → each_once log ≡ true
once_rising [] last up = refl
once_rising (one ∷ log) last up =
    let above = (and_parts (is_higher last one.0) (rises (Some one.0) log) up).1 in
    let same : one.0.0 ≤ one.0.0 = omega arith in
    and_from (not (is_among log one.0.0)) (each_once log) (ap not (higher_apart log one.0 one.0.0 same above)) (once_rising log (Some one.0) above)

-- what a host has learnt stays, where it isn't among those that still learn something
stays : (log : List Entry) (h : ℕ) (mid now : List FactsOf) → is_among log h ≡ false → LearnInTurn log mid now → row_of now h ≡ row_of mid h
stays [] h mid now none learns = ap (λ (all : List FactsOf). row_of all h) (sym learns)
stays (one ∷ log) h mid now none learns =
    let parts = or_parts (one.0.0 == h) (is_among log h) none in
    stays log h learns.0 now parts.1 learns.2 ∙ learns.1.0 h (λ same. eqb-false one.0.0 h parts.0 (sym same))

-- ---- on the way through the log: the map is that of what was learnt so far
abbrev pub IsStage : InventoryOf → Map → List FactsOf → List Entry → Map → Type 0
IsStage inventory extra now rest known = (mid : List FactsOf) × LearnInTurn rest mid now × (known ≡ hosts_magic (hostvars inventory extra mid))

abbrev pub IsOnWay : InventoryOf → Map → List FactsOf → List Entry → Map → List Entry → Map → Type 0
IsOnWay inventory extra now log old rest known =
    (each_once rest ≡ true) × ((before : List FactsOf) → LearnInTurn log before now → old ≡ hosts_magic (hostvars inventory extra before) → IsStage inventory extra now rest known)

pub way_first : (inventory : InventoryOf) (extra : Map) (now : List FactsOf) (log all : List Entry) (old : Map) → all ≡ log → each_once log ≡ true → IsOnWay inventory extra now log old all old
way_first inventory extra now log all old e once = subst (λ (rest : List Entry). IsOnWay inventory extra now log old rest old) (sym e) (once, (λ before learns was. (before, learns, was)))

next_stage : (inventory : InventoryOf) (extra : Map) (now : List FactsOf) (rest : List Entry) (one : Entry) (known new : Map) → is_among rest one.0.0 ≡ false
    → IsRenewedBetween inventory extra one.1 (row_of now one.0.0) one.0.0 known new → IsStage inventory extra now (one ∷ rest) known → IsStage inventory extra now rest new
next_stage inventory extra now rest one known new none renewed stage =
    let same = stays rest one.0.0 stage.1.0 now none stage.1.2 in
    (stage.1.0, stage.1.2, renewed stage.0 stage.1.0 stage.1.1.0 same (subst (λ (facts : FactsOf). IsBetween one.1 (row_of stage.0 one.0.0) facts) (sym same) stage.1.1.1) stage.2)

isnt : (b : Bool) → not b ≡ true → b ≡ false
isnt true e = cc
isnt false e = refl

pub way_more : (inventory : InventoryOf) (extra : Map) (now : List FactsOf) (log all rest : List Entry) (one : Entry) (old known new : Map) → all ≡ one ∷ rest → IsRenewedBetween inventory extra one.1 (row_of now one.0.0) one.0.0 known new
    → IsOnWay inventory extra now log old all known → IsOnWay inventory extra now log old rest new
way_more inventory extra now log all rest one old known new e renewed way = step (subst (λ (left : List Entry). IsOnWay inventory extra now log old left known) e way)
  where
    step : IsOnWay inventory extra now log old (one ∷ rest) known → IsOnWay inventory extra now log old rest new
    step on =
        let parts = and_parts (not (is_among rest one.0.0)) (each_once rest) on.0 in
        (parts.1, (λ before learns was. next_stage inventory extra now rest one known new (isnt (is_among rest one.0.0) parts.0) renewed (on.1 before learns was)))

last_stage : (inventory : InventoryOf) (extra : Map) (now : List FactsOf) (known : Map) → IsStage inventory extra now [] known → known ≡ hosts_magic (hostvars inventory extra now)
last_stage inventory extra now known stage = stage.2 ∙ ap (λ (all : List FactsOf). hosts_magic (hostvars inventory extra all)) stage.1

pub way_end : (inventory : InventoryOf) (extra : Map) (now : List FactsOf) (log all : List Entry) (old known : Map) → all ≡ [] → IsOnWay inventory extra now log old all known → IsRenewedInTurn inventory extra log now old known
way_end inventory extra now log all old known e way =
    λ before learns was. last_stage inventory extra now known ((subst (λ (left : List Entry). IsOnWay inventory extra now log old left known) e way).1 before learns was)
