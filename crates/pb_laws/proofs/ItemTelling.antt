-- What the items of a task are as it starts and as an attempt at one of them comes back, for the attempts that are left to it.
use Rattle.std.proofs.Common.{◌≡◌, ℕ, suc, ◌+◌, ◌<◌, ◌≤◌, Bool, true, false, not, cond, List, [], ◌∷◌, map, length, refl, sym, ap, subst, arith, ◌⊎◌, inl, inr}
use Rattle.std.specs.Prelude.{Option, Some, None, Result, Ok, Err, nat_lt, slice_get, if◌then◌else◌}
use Rattle.std.specs.Option.{option_map_or}
use Rattle.std.proofs.lemmas.Bool.{ltb-true, ltb-false}
use Rattle.pb_value.specs.Datum.{Datum}
use Rattle.pb_expr_syntax.specs.Tree.{Tree}
use Rattle.pb_layers.specs.Scope.{Map}
use Rattle.pb_operators.specs.declared.fault.EvalFault.{EvalFault}
use Rattle.pb_conditions.specs.Attempts.{by_until, is_enough, came_by, came as came_to, attempted, counted}
use Rattle.pb_conditions.specs.ResultConditions.{Sees, sees, with_conditions}
use Rattle.pb_conditions.specs.declared.attempt.Back.{Back}
use Rattle.pb_conditions.specs.declared.attempt.Back.TheVariants.{Ends, Again}
use Rattle.pb_facts.specs.Facts.{FactsOf}
use Rattle.pb_items.specs.Items.{StartOf, Step, seen_by, attempted_by, step_in, item_of, item_in, looped_items, items_by, items_of}
use Rattle.pb_items.specs.Loops.{loop_variable, values_of}
use Rattle.pb_items.specs.declared.fault.ItemFault.{ItemFault}
use Rattle.pb_outcome.specs.declared.gather.Ending.{Ending}
use Rattle.pb_outcome.specs.declared.gather.Ending.TheVariants.{Ran, Skipped, Faulty, Unreachable, NotStarted}
use Rattle.pb_outcome.specs.declared.gather.ItemResult.{ItemResult}
use Rattle.pb_outcome.specs.declared.item.Item.{Item}
use Rattle.pb_outcome.specs.declared.item.Planned.{Planned}
use Rattle.pb_outcome.specs.declared.item.Planned.TheVariants.{Decided, Sends}
use Rattle.pb_outcome.specs.declared.job.Call.{Call}
use Rattle.pb_outcome.specs.declared.outcome.Form.{Form}
use Rattle.pb_outcome.specs.Items.{is_waiting, next_item}
use Rattle.pb_outcome.specs.Results.{judged}
use Rattle.pb_places.specs.Place.{PlaceOf}
use Rattle.pb_play.specs.declared.loops.Loop.{Loop}
use Rattle.pb_play.specs.declared.retrying.Retrying.{Retrying}
use Rattle.pb_plan.specs.Plan.{PlayOf, PlanOf}
use Rattle.pb_task_vars.specs.Results.{start_with, start_of, nothing, place_for, items_for, items_at, came_for, came_at}
use Rattle.pb_host.specs.Attempts.{came, back_at, back_in, tried_then, tried_next, attempt_after, attempt_next}
use Rattle.pb_host.specs.Kept.{first_waiting}
use Rattle.pb_host.specs.Host.{came_back}
use Rattle.pb_host.proofs.InOrder.{next_is}
use Rattle.pb_laws.specs.Laws.{most_attempts, attempts_in, attempts_at}
use Rattle.pb_laws.proofs.Telling.{AreUntried}

-- ---- a task that starts
item_untried : (value : Option Datum) (r : Result Step ItemFault) → (item_of value r).tried ≡ 0
item_untried value (Ok step) = refl
item_untried value (Err fault) = refl

each_untried : (start : StartOf) (values : List Datum) → AreUntried (map (λ value. item_in start (Some value)) values)
unfolding item_in
each_untried start [] = tt
each_untried start (v ∷ vs) = (item_untried (Some v) (step_in start (loop_variable start.task.looped (Some v))), each_untried start vs)

looped_untried : (start : StartOf) (r : Result (List Datum) ItemFault) → AreUntried (looped_items (item_in start) r)
looped_untried start (Ok values) = each_untried start values
looped_untried start (Err fault) = (refl, tt)

loop_untried : (start : StartOf) (looped : Option Loop) → AreUntried (items_by start looped)
unfolding item_in
loop_untried start None = (item_untried None (step_in start (loop_variable start.task.looped None)), tt)
loop_untried start (Some looped) = looped_untried start (values_of (seen_by start []) looped.over)

place_untried : (plan : PlanOf) (play : PlayOf) (h : ℕ) (facts : FactsOf) (found : Option PlaceOf)
    → AreUntried (option_map_or (items_for plan play h facts) found (record { value = None; delegate = None; tried = 0; step = Decided nothing } ∷ []))
unfolding items_of
place_untried plan play h facts None = (refl, tt)
place_untried plan play h facts (Some place) = loop_untried (start_of plan play h facts place) (start_of plan play h facts place).task.looped

items_untried : (plan : PlanOf) (play : PlayOf) (h : ℕ) (facts : FactsOf) (p : ℕ) → AreUntried (items_at plan play h facts p)
unfolding items_at
items_untried plan play h facts p = place_untried plan play h facts (place_for plan play h p)

pub begin_untried : (plan : PlanOf) (play : PlayOf) (h : ℕ) (facts : FactsOf) (p : ℕ) (items : List Item) → items ≡ items_at plan play h facts p → AreUntried items
begin_untried plan play h facts p items are = subst AreUntried (sym are) (items_untried plan play h facts p)

-- ---- behind which attempt another one comes
enough_last : (r : Result Bool EvalFault) (item result : ItemResult) → by_until r true item ≡ Again result → ⊥
enough_last (Ok true) item result e = cc
enough_last (Ok false) item result e = cc
enough_last (Err fault) item result e = cc

-- none behind the last
none_last : (sight : Sees) (register : Option (List ℕ)) (until : Option (List Tree)) (item result : ItemResult) → came_to sight register until true item ≡ Again result → ⊥
none_last sight register until item result e = by_ending item.ending e
  where
    by_ending : (ending : Ending) → came_by ending sight register until true item ≡ Again result → ⊥
    by_ending (Ran changed failed) f = enough_last (is_enough sight register until item) item result f
    by_ending Skipped f = cc
    by_ending Faulty f = cc
    by_ending Unreachable f = cc
    by_ending NotStarted f = cc

tried_within : (retrying : Option Retrying) (start : StartOf) (variable : Map) (attempt : ℕ) (item result : ItemResult) → attempted_by retrying start variable attempt item ≡ Again result
    → attempt + 1 ≤ option_map_or (λ (r : Retrying). r.retries + 1) retrying 1
tried_within None start variable attempt item result e = cc
tried_within (Some r) start variable attempt item result e = by_last (nat_lt r.retries attempt) refl e
  where
    by_last : (last : Bool) → nat_lt r.retries attempt ≡ last
        → attempted (sees start.layers start.magic variable) start.task.register start.task.changed_when start.task.failed_when r.until attempt last item ≡ Again result → attempt + 1 ≤ r.retries + 1
    by_last true is f =
        absurd
        (none_last (sees start.layers start.magic variable) start.task.register r.until
        (with_conditions (sees start.layers start.magic variable) start.task.register start.task.changed_when start.task.failed_when (counted attempt item)) result f)
    by_last false is f = let most = ltb-false r.retries attempt is in omega (arith, most)

place_there : (b : Bool) (found : Option PlaceOf) (place : PlaceOf) → (if b then found else None) ≡ Some place → found ≡ Some place
place_there true found place e = e
place_there false found place e = cc

came_within : (plan : PlanOf) (play : PlayOf) (h : ℕ) (facts : FactsOf) (p : ℕ) (value : Option Datum) (attempt : ℕ) (item result : ItemResult) → came_at plan play h facts p value attempt item ≡ Again result
    → attempt + 1 ≤ attempts_in p play
unfolding came_at start_with
came_within plan play h facts p value attempt item result e = by_place (place_for plan play h p) refl e
  where
    by_place : (found : Option PlaceOf) → place_for plan play h p ≡ found → option_map_or (came_for plan play h facts value attempt item) found (Ends item) ≡ Again result → attempt + 1 ≤ attempts_in p play
    by_place None is f = cc
    by_place (Some place) is f =
        subst (λ (found : Option PlaceOf). attempt + 1 ≤ option_map_or (λ (at : PlaceOf). most_attempts at.task) found 1) (sym (place_there (nat_lt h (length plan.inventory.hosts)) (slice_get play.places p) place is))
        (tried_within place.task.retrying (start_of plan play h facts place) (loop_variable place.task.looped value) attempt item result f)

pub back_allowed : (plan seen : PlanOf) (number : ℕ) (play : PlayOf) (h : ℕ) (facts : FactsOf) (p : ℕ) (outcome : Form) (item : Item) (call : Call) (result : ItemResult)
    → slice_get plan.plays number ≡ Some play → came_back seen play h facts p outcome item call ≡ Again result → attempt_after item.tried + 1 ≤ attempts_at plan number p
back_allowed plan seen number play h facts p outcome item call result there e =
    subst (λ (found : Option PlayOf). attempt_after item.tried + 1 ≤ option_map_or (attempts_in p) found 1) (sym there)
    (came_within seen play h facts p item.value (attempt_after item.tried) (judged call outcome) result e)

-- ---- the items of a task that runs: the next one has an attempt left, and none behind it was tried
abbrev pub WithinAt : ℕ → Item → List Item → Type 0 → Planned → Type 0
WithinAt most item items rest (Decided result) = rest
WithinAt most item items rest (Sends call) = (attempt_after item.tried ≤ most) × AreUntried items

abbrev pub AreWithin : ℕ → List Item → Type 0
AreWithin most [] = Unit {0}
AreWithin most (item ∷ items) = WithinAt most item items (AreWithin most items) item.step

pub untried_within : (most : ℕ) (items : List Item) → 1 ≤ most → AreUntried items → AreWithin most items
untried_within most [] l all = tt
untried_within most (item ∷ items) l all = by_step item.step (untried_within most items l all.1)
  where
    by_step : (step : Planned) → AreWithin most items → WithinAt most item items (AreWithin most items) step
    by_step (Decided result) rest = rest
    by_step (Sends call) rest = (subst (λ n. attempt_after n ≤ most) (sym all.0) l, all.1)

pub untried_next : (items : List Item) → AreUntried items → tried_next items ≡ 0
untried_next [] all = refl
untried_next (item ∷ items) all = by_step item.step (untried_next items all.1)
  where
    by_step : (step : Planned) → tried_next items ≡ 0 → tried_then step item.tried (tried_next items) ≡ 0
    by_step (Decided result) rest = rest
    by_step (Sends call) rest = all.0

within_first : (most : ℕ) (items : List Item) → AreWithin most items → first_waiting items < length items → attempt_next items ≤ most
within_first most [] within l = absurd (omega (arith, l))
within_first most (item ∷ items) within l = by_step item.step (λ w m. within_first most items w m) within l
  where
    by_step : (step : Planned) → (AreWithin most items → first_waiting items < length items → attempt_next items ≤ most) → WithinAt most item items (AreWithin most items) step
        → cond (not (is_waiting step)) (1 + first_waiting items) 0 < suc (length items) → attempt_after (tried_then step item.tried (tried_next items)) ≤ most
    by_step (Decided result) rest w m = rest w (omega (arith, m))
    by_step (Sends call) rest w m = w.0

pub within_next : (most n : ℕ) (items : List Item) → AreWithin most items → next_item items ≡ Some n → attempt_next items ≤ most
within_next most n items within e = let is = next_is items n e in within_first most items within (omega (arith, is.0, is.1))

-- ---- an attempt comes back
attempt_up : (tried : ℕ) → nat_lt tried 100 ≡ true → attempt_after (tried + 1) ≡ attempt_after tried + 1
attempt_up tried e = by_order (nat_lt (tried + 1) 100) refl
  where
    by_order : (few : Bool) → nat_lt (tried + 1) 100 ≡ few → cond few (tried + 1 + 1) 101 ≡ cond (nat_lt tried 100) (tried + 1) 101 + 1
    by_order true f = rw e refl
    by_order false f = let less = ltb-true tried 100 e in let least = ltb-false (tried + 1) 100 f in rw e (omega (arith, less, least))

came_within_item : (most : ℕ) (item : Item) (items : List Item) (call : Call) (back : Back) → 1 ≤ most → item.step ≡ Sends call → ((result : ItemResult) → back ≡ Again result → attempt_after item.tried + 1 ≤ most)
    → AreUntried items → AreWithin most (came back item ∷ items)
came_within_item most item items call (Ends result) l is allowed all = untried_within most items l all
came_within_item most item items call (Again result) l is allowed all = by_order (nat_lt item.tried 100) refl
  where
    by_order : (few : Bool) → nat_lt item.tried 100 ≡ few → AreWithin most (cond few (record item { tried = item.tried + 1 }) (record item { step = Decided result }) ∷ items)
    by_order true f =
        let up = attempt_up item.tried f in
        let most_is = allowed result refl in
        subst (WithinAt most (record item { tried = item.tried + 1 }) items (AreWithin most items)) (sym is) (omega (arith, up, most_is), all)
    by_order false f = untried_within most items l all

pub back_within : (judge : Item → Call → Back) (most : ℕ) (items : List Item) → 1 ≤ most → ((item : Item) (call : Call) (result : ItemResult) → judge item call ≡ Again result → attempt_after item.tried + 1 ≤ most)
    → AreWithin most items → AreWithin most (back_in judge items)
back_within judge most [] l allowed within = tt
back_within judge most (item ∷ items) l allowed within = by_step item.step refl (λ w. back_within judge most items l allowed w) within
  where
    by_step : (step : Planned) → item.step ≡ step → (AreWithin most items → AreWithin most (back_in judge items)) → WithinAt most item items (AreWithin most items) step
        → AreWithin most (back_at judge item items (back_in judge items) step)
    by_step (Decided result) is rest w = subst (WithinAt most item (back_in judge items) (AreWithin most (back_in judge items))) (sym is) (rest w)
    by_step (Sends call) is rest w = came_within_item most item items call (judge item call) l is (λ result e. allowed item call result e) w.1

-- either the same item is next, with its next attempt, or one behind it with its first
abbrev pub GoesOn : ℕ → ℕ → List Item → Type 0
GoesOn first tried new = ((first_waiting new ≡ first) × (attempt_next new ≡ attempt_after tried + 1)) ⊎ ((first < first_waiting new) × (tried_next new ≡ 0))

goes_behind : (item : Item) (items new : List Item) (result : ItemResult) → item.step ≡ Decided result → GoesOn (first_waiting items) (tried_next items) new → GoesOn (1 + first_waiting items) (tried_next items) (item ∷ new)
goes_behind item items new result is (inl goes) = inl (rw is (ap (λ n. 1 + n) goes.0), rw is goes.1)
goes_behind item items new result is (inr goes) = inr (rw is (let more = goes.0 in omega (arith, more)), rw is goes.1)

goes_came : (item : Item) (items : List Item) (call : Call) (back : Back) → item.step ≡ Sends call → AreUntried items → GoesOn 0 item.tried (came back item ∷ items)
goes_came item items call (Ends result) is all = inr (omega arith, untried_next items all)
goes_came item items call (Again result) is all = by_order (nat_lt item.tried 100) refl
  where
    by_order : (few : Bool) → nat_lt item.tried 100 ≡ few → GoesOn 0 item.tried (cond few (record item { tried = item.tried + 1 }) (record item { step = Decided result }) ∷ items)
    by_order true f = inl (rw is refl, rw is (attempt_up item.tried f))
    by_order false f = inr (omega arith, untried_next items all)

pub goes_on_back : (judge : Item → Call → Back) (most : ℕ) (items : List Item) → AreWithin most items → first_waiting items < length items → GoesOn (first_waiting items) (tried_next items) (back_in judge items)
goes_on_back judge most [] within l = absurd (omega (arith, l))
goes_on_back judge most (item ∷ items) within l = by_step item.step refl (λ w m. goes_on_back judge most items w m) within l
  where
    by_step : (step : Planned) → item.step ≡ step → (AreWithin most items → first_waiting items < length items → GoesOn (first_waiting items) (tried_next items) (back_in judge items))
        → WithinAt most item items (AreWithin most items) step → cond (not (is_waiting step)) (1 + first_waiting items) 0 < suc (length items)
        → GoesOn (cond (not (is_waiting step)) (1 + first_waiting items) 0) (tried_then step item.tried (tried_next items)) (back_at judge item items (back_in judge items) step)
    by_step (Decided result) is rest w m = goes_behind item items (back_in judge items) result is (rest w (omega (arith, m)))
    by_step (Sends call) is rest w m = goes_came item items call (judge item call) is w.1

-- ---- a task may be tried at least once
task_once : (retrying : Option Retrying) → 1 ≤ option_map_or (λ (r : Retrying). r.retries + 1) retrying 1
task_once None = omega arith
task_once (Some r) = omega arith

place_once : (found : Option PlaceOf) → 1 ≤ option_map_or (λ (at : PlaceOf). most_attempts at.task) found 1
place_once None = omega arith
place_once (Some at) = task_once at.task.retrying

play_once : (place : ℕ) (found : Option PlayOf) → 1 ≤ option_map_or (attempts_in place) found 1
play_once place None = omega arith
play_once place (Some play) = place_once (slice_get play.places place)

pub some_attempt : (plan : PlanOf) (play place : ℕ) → 1 ≤ attempts_at plan play place
some_attempt plan play place = play_once place (slice_get plan.plays play)
