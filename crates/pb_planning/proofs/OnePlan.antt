-- A bundle has one plan, and its forks are nothing to the rest of it.
use Rattle.std.proofs.Common.{◌≡◌, ◌∙◌, ℕ, Bool, true, false, List, [], ◌∷◌, ◌++◌, refl, sym, ap, subst}
use Rattle.std.specs.Prelude.{nat_lt, map, Option, Some, None, Result, Ok, Err, if◌then◌else◌}
use Rattle.pb_value.specs.Limits.{max_bytes}
use Rattle.pb_value.specs.Reading.{and_then}
use Rattle.pb_inventory.specs.InventoryOf.{InventoryOf}
use Rattle.pb_inventory.specs.Reading.{inventory_of}
use Rattle.pb_inventory.specs.Vars.{strangers}
use Rattle.pb_layers.specs.Scope.{Map}
use Rattle.pb_patterns.specs.Expressions.{AreTaken, behind}
use Rattle.pb_patterns.specs.declared.element.Element.{Element}
use Rattle.pb_patterns.specs.declared.selected.Selected.{Selected}
use Rattle.pb_play_reading.specs.Playbooks.{playbook_of, expressions_of_book}
use Rattle.pb_play_reading.specs.Refusals.{met_behind, AllTaken}
use Rattle.pb_roles.specs.declared.sections.Expanded.{Expanded}
use Rattle.pb_planning.specs.declared.bundle.Bundle.{Bundle}
use Rattle.pb_planning.specs.declared.bundle.BundleFault.{BundleFault}
use Rattle.pb_planning.specs.declared.bundle.BundleFault.TheVariants.{Inventory, Playbook as InPlaybook, BadForks, TooLarge}
use Rattle.pb_plan.specs.Plan.{PlayOf, PlanOf}
use Rattle.pb_planning.specs.Bundle.{Readings, Variables, both, play_with, lines_of_play, in_part, limited, varied, variables_of, readings_of, expressions_of_limit, are_bad_forks, bundle_bytes, stranger_line, unmatched_line, IsLimit, IsPlayOf, ArePlaysOf, IsPlanIn, IsPlanOf, PlansAreOne, with_forks, ForksAreApart}

one_limit : (inventory : InventoryOf) (limit : Option (List Element)) (one other : Selected) → IsLimit inventory limit one → IsLimit inventory limit other → one ≡ other
one_limit inventory None one other is also = is ∙ sym also
one_limit inventory (Some elements) one other is also = is ∙ sym also

one_play : (inventory : InventoryOf) (limit : List Bool) (play : Expanded) (p q : PlayOf) (l m : List (List ℕ)) → IsPlayOf inventory limit play p l → IsPlayOf inventory limit play q m → (p ≡ q) × (l ≡ m)
one_play inventory limit play p q l m (own, selects, planned, lines) (other, also, as_planned, as_lines) =
    let same : own ≡ other = selects ∙ sym also in (
      planned ∙ ap (λ (s : Selected). play_with inventory (both s.hosts limit) play) same ∙ sym as_planned,
      lines ∙ ap (λ (s : Selected). lines_of_play s.unmatched play) same ∙ sym as_lines,
    )

one_book : (inventory : InventoryOf) (limit : List Bool) (book : List Expanded) (ps qs : List PlayOf) (ls ms : List (List ℕ)) → ArePlaysOf inventory limit book ps ls → ArePlaysOf inventory limit book qs ms
    → (ps ≡ qs) × (ls ≡ ms)
one_book inventory limit [] [] [] ls ms are also = (refl, are ∙ sym also)
one_book inventory limit [] [] (q ∷ qs) ls ms are also = absurd also
one_book inventory limit [] (p ∷ ps) qs ls ms are also = absurd are
one_book inventory limit (play ∷ book) [] qs ls ms are also = absurd are
one_book inventory limit (play ∷ book) (p ∷ ps) [] ls ms are also = absurd also
one_book inventory limit (play ∷ book) (p ∷ ps) (q ∷ qs) ls ms (first, later, is, are, put) (head, rest, has, also, made) =
    let here = one_play inventory limit play p q first head is has in
    let there = one_book inventory limit book ps qs later rest are also in (
      ap (λ (x : PlayOf). x ∷ ps) here.0 ∙ ap (λ (xs : List PlayOf). q ∷ xs) there.0,
      put ∙ ap (λ (x : List (List ℕ)). x ++ later) here.1 ∙ ap (λ (xs : List (List ℕ)). head ++ xs) there.1 ∙ sym made,
    )

-- plans that are the same field by field
abbrev plan_with : List PlayOf → ℕ → Bool → List (List ℕ) → InventoryOf → Map → Map → PlanOf
plan_with plays forks program warnings inventory extra magic =
    record { plays = plays; forks = forks; has_facts_program = program; warnings = warnings; inventory = inventory; extra = extra; magic = magic }

same_plan : (p q : PlanOf) → p.plays ≡ q.plays → p.forks ≡ q.forks → p.has_facts_program ≡ q.has_facts_program → p.warnings ≡ q.warnings → p.inventory ≡ q.inventory → p.extra ≡ q.extra → p.magic ≡ q.magic → p ≡ q
same_plan p q plays forks program warnings inventory extra magic =
    ap (λ (x : List PlayOf). plan_with x p.forks p.has_facts_program p.warnings p.inventory p.extra p.magic) plays
    ∙ ap (λ (x : ℕ). plan_with q.plays x p.has_facts_program p.warnings p.inventory p.extra p.magic) forks
    ∙ ap (λ (x : Bool). plan_with q.plays q.forks x p.warnings p.inventory p.extra p.magic) program
    ∙ ap (λ (x : List (List ℕ)). plan_with q.plays q.forks q.has_facts_program x p.inventory p.extra p.magic) warnings
    ∙ ap (λ (x : InventoryOf). plan_with q.plays q.forks q.has_facts_program q.warnings x p.extra p.magic) inventory
    ∙ ap (λ (x : Map). plan_with q.plays q.forks q.has_facts_program q.warnings q.inventory x p.magic) extra
    ∙ ap (λ (x : Map). plan_with q.plays q.forks q.has_facts_program q.warnings q.inventory q.extra x) magic

one_in : (inventory : InventoryOf) (extra : Map) (limit : Option (List Element)) (forks : ℕ) (program : Bool) (book : List Expanded) (p q : PlanOf) → IsPlanIn inventory extra limit forks program book p
    → IsPlanIn inventory extra limit forks program book q → p ≡ q
one_in inventory extra limit forks program book p q is also =
    let same : is.selected ≡ also.selected = one_limit inventory limit is.selected also.selected is.limited also.limited in
    let plays = one_book inventory also.selected.hosts book p.plays q.plays is.lines also.lines
    (subst (λ (s : Selected). ArePlaysOf inventory s.hosts book p.plays is.lines) same is.plays) also.plays in
    same_plan p q plays.0 (is.has_forks ∙ sym also.has_forks) (is.has_program ∙ sym also.has_program)
    (is.warnings ∙ ap (λ (s : Selected). map stranger_line (strangers inventory) ++ map unmatched_line s.unmatched ++ is.lines) same
    ∙ ap (λ (lines : List (List ℕ)). map stranger_line (strangers inventory) ++ map unmatched_line also.selected.unmatched ++ lines) plays.1 ∙ sym also.warnings)
    (is.has_inventory ∙ sym also.has_inventory) (is.has_extra ∙ sym also.has_extra) (is.has_magic ∙ sym also.has_magic)

one_of : {A F : Type 0} (r : Result A F) (x y : A) → r ≡ Ok x → r ≡ Ok y → x ≡ y
one_of (Ok z) x y is also = let both : Ok x ≡ Ok y = sym is ∙ also in cc
one_of (Err e) x y is also = cc

pub plans_are_one : PlansAreOne
plans_are_one bundle p q is also =
    let same : is.readings ≡ also.readings = one_of (readings_of bundle) is.readings also.readings is.read also.read in
    one_in also.readings.inventory also.readings.extra also.readings.limit bundle.forks bundle.has_facts_program also.readings.plays p q
    (subst (λ (r : Readings). IsPlanIn r.inventory r.extra r.limit bundle.forks bundle.has_facts_program r.plays p) same is.planned) also.planned

-- ---- other forks
-- the size comes first, and then the forks
abbrev front : (large bad : Bool) → Result Variables BundleFault → Result Variables BundleFault
front large bad rest = if large then Err TooLarge else (if bad then Err BadForks else rest)

front_same : (large bad worse : Bool) (rest : Result Variables BundleFault) (v : Variables) → worse ≡ false → front large bad rest ≡ Ok v → front large bad rest ≡ front large worse rest
front_same true bad worse rest v good is = cc
front_same false true worse rest v good is = cc
front_same false false worse rest v good is = ap (λ (b : Bool). front false b rest) (sym good)

variables_same : (bundle : Bundle) (forks : ℕ) (v : Variables) → are_bad_forks bundle.forks ≡ false → variables_of (with_forks forks bundle) ≡ Ok v → variables_of (with_forks forks bundle) ≡ variables_of bundle
unfolding variables_of
variables_same bundle forks v good is =
    front_same (nat_lt max_bytes (bundle_bytes bundle)) (are_bad_forks forks) (are_bad_forks bundle.forks) (and_then (in_part Inventory (inventory_of bundle.inventory)) (varied bundle)) v good is

then_read : (bundle : Bundle) (variables : Result Variables BundleFault) → Result Readings BundleFault
then_read bundle variables = and_then variables (λ found. and_then (in_part InPlaybook (playbook_of bundle.playbook)) (limited bundle found))

read_first : (bundle : Bundle) (variables : Result Variables BundleFault) (r : Readings) → then_read bundle variables ≡ Ok r → (v : Variables) × (variables ≡ Ok v)
unfolding then_read
read_first bundle (Ok v) r is = (v, refl)
read_first bundle (Err e) r is = cc

good_forks : (bundle : Bundle) (v : Variables) → variables_of bundle ≡ Ok v → are_bad_forks bundle.forks ≡ false
unfolding variables_of
good_forks bundle v is = by_front (nat_lt max_bytes (bundle_bytes bundle)) (are_bad_forks bundle.forks) (and_then (in_part Inventory (inventory_of bundle.inventory)) (varied bundle)) is
  where
    by_front : (large bad : Bool) (rest : Result Variables BundleFault) → front large bad rest ≡ Ok v → bad ≡ false
    by_front true bad rest e = cc
    by_front false true rest e = cc
    by_front false false rest e = refl

other_forks : (bundle : Bundle) (forks : ℕ) (q : PlanOf) → are_bad_forks bundle.forks ≡ false → IsPlanOf (with_forks forks bundle) q → IsPlanOf bundle (record q { forks = bundle.forks })
unfolding then_read
other_forks bundle forks q good is =
    let first = read_first bundle (variables_of (with_forks forks bundle)) is.readings is.read in
    let same = variables_same bundle forks first.0 good first.1 in record {
      readings = is.readings;
      plays_taken = subst (λ (r : Result Variables BundleFault). AllTaken (met_behind r (λ _. expressions_of_book bundle.playbook))) same is.plays_taken;
      limit_taken =
          subst (λ (r : Result Variables BundleFault). AreTaken (behind (and_then r (λ _. in_part InPlaybook (playbook_of bundle.playbook))) (λ _. expressions_of_limit bundle.limit))) same is.limit_taken;
      read = ap (then_read bundle) (sym same) ∙ is.read;
      planned = record {
        selected = is.planned.selected;
        lines = is.planned.lines;
        limited = is.planned.limited;
        plays = is.planned.plays;
        has_forks = refl;
        has_program = is.planned.has_program;
        has_inventory = is.planned.has_inventory;
        has_extra = is.planned.has_extra;
        has_magic = is.planned.has_magic;
        warnings = is.planned.warnings;
      };
    }

pub forks_are_apart : ForksAreApart
unfolding then_read
forks_are_apart bundle forks p q is also =
    let first = read_first bundle (variables_of bundle) is.readings is.read in
    let same : p ≡ record q { forks = bundle.forks } = plans_are_one bundle p (record q { forks = bundle.forks }) is (other_forks bundle forks q (good_forks bundle first.0 first.1) also) in
    ap (λ (n : ℕ). record q { forks = n }) also.planned.has_forks ∙ ap (λ (plan : PlanOf). record plan { forks = forks }) (sym same)
