-- Two runs of one bundle by one file of outcomes end in the same, whatever their forks.
use Rattle.std.proofs.Common.{◌≡◌, ◌<◌, ◌∙◌, ℕ, zero, suc, Bool, true, false, ◌||◌, List, Option, None, refl, sym, ap, subst, arith}
use Rattle.std.specs.Prelude.{nat_eq, nat_lt, Result, Ok, Err, if◌then◌else◌}
use Rattle.pb_value.specs.Limits.{max_bytes}
use Rattle.pb_value.specs.Reading.{and_then}
use Rattle.pb_inventory.specs.Reading.{inventory_of}
use Rattle.pb_driver.specs.Laws.{IsEnd, IsWhole, with_forks, Fixed, IsFixed, is_independent, are_linear}
use Rattle.pb_driver.proofs.Laws.{end_alike, state_forks, whole_forks}
use Rattle.pb_driver.specs.FromRecap.{status_of}
use Rattle.pb_play_reading.specs.Playbooks.{playbook_of}
use Rattle.pb_planning.specs.Bundle.{Readings, Variables, are_bad_forks, bundle_bytes, in_part, limited, varied, variables_of, IsPlanOf}
use Rattle.pb_plan.specs.Plan.{PlanOf}
use Rattle.pb_planning.specs.declared.bundle.Bundle.{Bundle}
use Rattle.pb_planning.specs.declared.bundle.BundleFault.{BundleFault}
use Rattle.pb_planning.specs.declared.bundle.BundleFault.TheVariants.{Inventory, Playbook as InPlaybook, BadForks, TooLarge}
use Rattle.pb_planning.proofs.OnePlan.{forks_are_apart}
use Rattle.pb_runner.specs.declared.table.Table.{Table}
use Rattle.pb_runner.specs.Table.{TableGives}
use Rattle.pb_state.specs.declared.event.Event.{Event}
use Rattle.pb_state.specs.Machine.{first_state}
use Rattle.pb_state.specs.State.{State}
use Rattle.pb_audit.specs.Audit.{end_of, end_under}
use Rattle.pb_driver.specs.declared.given.Given.{Given}
use Rattle.pb_driver.specs.ByTable.{IsUnrefused, allows_all, given_by}
use Rattle.pb_driver.specs.Driven.{IsAnswer}
use Rattle.pb_driver.proofs.ByTable.{tables_fix_outcomes}
use Rattle.pb_cli.specs.Again.{AreAlike, ForksChangeNothing, PlaysAgree}
use Rattle.pb_cli.specs.Played.{IsRunBy, IsTabled, commands_for}

-- ---- a plan has a fork
front : (large bad : Bool) → Result Variables BundleFault → Result Variables BundleFault
front large bad rest = if large then Err TooLarge else (if bad then Err BadForks else rest)

front_good : (large bad : Bool) (rest : Result Variables BundleFault) (v : Variables) → front large bad rest ≡ Ok v → bad ≡ false
unfolding front
front_good true bad rest v is = cc
front_good false true rest v is = cc
front_good false false rest v is = refl

variables_good : (bundle : Bundle) (found : Result Variables BundleFault) (r : Readings) → variables_of bundle ≡ found
    → and_then found (λ variables. and_then (in_part InPlaybook (playbook_of bundle.playbook)) (limited bundle variables)) ≡ Ok r → are_bad_forks bundle.forks ≡ false
unfolding variables_of front
variables_good bundle (Ok v) r is read =
    front_good (nat_lt max_bytes (bundle_bytes bundle)) (are_bad_forks bundle.forks) (and_then (in_part Inventory (inventory_of bundle.inventory)) (varied bundle)) v is
variables_good bundle (Err e) r is read = cc

some_good : (forks : ℕ) (large : Bool) → (nat_eq forks 0 || large) ≡ false → 0 < forks
some_good zero large good = cc
some_good (suc n) large good = omega arith

has_forks : (bundle : Bundle) (plan : PlanOf) → IsPlanOf bundle plan → 0 < bundle.forks
has_forks bundle plan planned = some_good bundle.forks (nat_lt 256 bundle.forks) (variables_good bundle (variables_of bundle) planned.readings refl planned.read)

-- ---- a whole run by a table
one_of : {A F : Type 0} (r : Result A F) (x y : A) → r ≡ Ok x → r ≡ Ok y → x ≡ y
one_of (Ok z) x y is also = let both : Ok x ≡ Ok y = sym is ∙ also in cc
one_of (Err e) x y is also = cc

whole_again : (plan : PlanOf) (forks : ℕ) (table : Table) (commands : List Given) (again : List Event) (status : ℕ) → 0 < forks
    → IsRunBy (IsAnswer allows_all (TableGives table)) (with_forks forks plan) 256 commands again None None status
    → IsUnrefused table (with_forks forks plan) (first_state (with_forks forks plan) forks 256) again → (end_under plan forks again).stopped ≡ false
    → IsWhole plan (given_by plan.inventory table) forks 256 again
whole_again plan forks table commands again status some run unrefused unstopped =
    let s : State = end_of (with_forks forks plan) again in
    let is_end : IsEnd (with_forks forks plan) (given_by plan.inventory table) 256 again s = record {
      some = some;
      run = record { legal = run.run.legal; ends = refl };
      is_fixed = tables_fix_outcomes table (with_forks forks plan) (first_state (with_forks forks plan) forks 256) again run.run.answered unrefused;
      finished = run.run.finished;
      unstopped = ap (λ (t : State). t.stopped) (state_forks forks plan (first_state plan forks 256) again) ∙ unstopped;
    } in
    (whole_forks forks plan (given_by plan.inventory table) 256 again s is_end).0

pub forks_change_nothing : ForksChangeNothing
forks_change_nothing bundle forks stop_after other_stop_after bytes trail plan found before after status first second linear independent unstopped unstopped_too unrefused unrefused_too =
    let apart : second.other ≡ with_forks forks plan = forks_are_apart bundle forks plan second.other second.planned second.others in
    let one : IsWhole plan (given_by plan.inventory first.table) plan.forks 256 trail = record {
      some = subst (λ (n : ℕ). 0 < n) (sym second.planned.planned.has_forks) (has_forks bundle plan second.planned);
      legal = first.run.run.legal;
      is_fixed = tables_fix_outcomes first.table plan (first_state plan plan.forks 256) trail first.run.run.answered unrefused;
      finished = first.run.run.finished;
      unstopped = unstopped;
    } in
    let two = whole_again plan forks second.table (commands_for other_stop_after) second.again second.status (has_forks _ second.other second.others)
    (subst (λ (p : PlanOf). IsRunBy (IsAnswer allows_all (TableGives second.table)) p 256 (commands_for other_stop_after) second.again None None second.status) apart second.run)
    (subst (λ (p : PlanOf). IsUnrefused second.table p (first_state p p.forks 256) second.again) apart unrefused_too) unstopped_too in
    let same : second.table ≡ first.table = one_of _ second.table first.table second.tabled first.tabled in
    second.same (given_by plan.inventory first.table) linear independent one
    (subst (λ (t : Table). IsWhole plan (given_by plan.inventory t) forks 256 second.again) same two)

-- ---- two plays
module _ (bundle : Bundle) (forks : ℕ) (stop_after other_stop_after : Option ℕ) (bytes : List ℕ) (plan : PlanOf) (trail again : List Event) (before after before_again after_again : Option (List ℕ)) (status other_status : ℕ)
    (first : IsTabled bytes plan stop_after trail before after status) where
  -- what is known of the second one, and what follows
  abbrev Agrees : PlanOf → Type 0
  Agrees other =
      (second : IsTabled bytes other other_stop_after again before_again after_again other_status) → (end_of other again).stopped ≡ false → IsUnrefused second.table other (first_state other other.forks 256) again →
      AreAlike plan other trail again status other_status

  agrees : IsPlanOf bundle plan → 0 < forks → are_linear plan ≡ true → is_independent plan ≡ true → (end_of plan trail).stopped ≡ false → IsUnrefused first.table plan (first_state plan plan.forks 256) trail
      → Agrees (with_forks forks plan)
  agrees planned some linear independent unstopped unrefused second unstopped_too unrefused_too =
      let f : Fixed = given_by plan.inventory first.table in
      let same : second.table ≡ first.table = one_of _ second.table first.table second.tabled first.tabled in
      let one : IsEnd plan f 256 trail (end_of plan trail) = record {
        some = subst (λ (n : ℕ). 0 < n) (sym planned.planned.has_forks) (has_forks bundle plan planned);
        run = record { legal = first.run.run.legal; ends = refl };
        is_fixed = tables_fix_outcomes first.table plan (first_state plan plan.forks 256) trail first.run.run.answered unrefused;
        finished = first.run.run.finished;
        unstopped = unstopped;
      } in
      let two : IsEnd (with_forks forks plan) f 256 again (end_of (with_forks forks plan) again) = record {
        some = some;
        run = record { legal = second.run.run.legal; ends = refl };
        is_fixed =
            subst (λ (t : Table). IsFixed (with_forks forks plan) (given_by plan.inventory t) (first_state (with_forks forks plan) forks 256) again) same
            (tables_fix_outcomes second.table (with_forks forks plan) (first_state (with_forks forks plan) forks 256) again second.run.run.answered unrefused_too);
        finished = second.run.run.finished;
        unstopped = unstopped_too;
      } in
      let alike = end_alike plan f plan.forks forks 256 256 trail again (end_of plan trail) (end_of (with_forks forks plan) again) linear independent one two in record {
        counts = alike.counts;
        statuses = first.run.recapped ∙ ap status_of alike.counts ∙ sym second.run.recapped;
        facts = alike.facts;
      }

pub plays_agree : PlaysAgree
plays_agree bundle forks stop_after other_stop_after bytes plan other trail again before after before_again after_again status other_status first second planned others linear independent unstopped unstopped_too unrefused unrefused_too =
    let apart : other ≡ with_forks forks plan = forks_are_apart bundle forks plan other planned others in
    subst (Agrees bundle forks stop_after other_stop_after bytes plan trail again before after before_again after_again status other_status first) (sym apart)
    (agrees bundle forks stop_after other_stop_after bytes plan trail again before after before_again after_again status other_status first planned (has_forks (record bundle { forks = forks }) other others) linear independent unstopped unrefused)
    second unstopped_too unrefused_too
