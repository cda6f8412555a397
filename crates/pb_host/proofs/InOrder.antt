-- The items of a task come back one after another.
use Rattle.std.proofs.Common.{◌≡◌, ℕ, zero, suc, ◌+◌, ◌*◌, ◌<◌, ◌≤◌, Bool, true, false, ◌||◌, not, cond, List, [], ◌∷◌, length, get_or, refl, sym, ◌∙◌, ap, arith}
use Rattle.std.specs.Prelude.{nat_lt, nat_eq, Option, Some, None, is_none, option_map, slice_get, slice_set}
use Rattle.std.specs.Option.{option_map_or}
use Rattle.std.proofs.lemmas.Bool.{ltb-true, ltb-false, lt-ltb, le-ltb, eqb-true}
use Rattle.std.proofs.lemmas.List.Sums.{fails_before_first, passes_at_first}
use Rattle.pb_conditions.specs.declared.attempt.Back.{Back}
use Rattle.pb_conditions.specs.declared.attempt.Back.TheVariants.{Ends, Again}
use Rattle.pb_outcome.specs.declared.gather.ItemResult.{ItemResult}
use Rattle.pb_outcome.specs.declared.item.Item.{Item}
use Rattle.pb_outcome.specs.declared.item.Planned.{Planned}
use Rattle.pb_outcome.specs.declared.item.Planned.TheVariants.{Decided, Sends}
use Rattle.pb_outcome.specs.declared.job.Call.{Call}
use Rattle.pb_outcome.specs.Gathered.{is_unreachable, some_unreachable}
use Rattle.pb_outcome.specs.Items.{is_waiting, waits, next_item, result_then, ended, is_over}
use Rattle.pb_host.specs.declared.items.Before.{Before}
use Rattle.pb_host.specs.Attempts.{came, back_at, back_in, tried_then, tried_next, tried_most, attempt_after, attempt_next, rank}
use Rattle.pb_host.specs.Back.{undone_items}
use Rattle.pb_host.specs.Calls.{call_of, call_in, tried_of}
use Rattle.pb_host.specs.StepResults.{retried_by, retried_then, retried_in}
use Rattle.pb_host.specs.Runs.{is_item}
use Rattle.pb_host.specs.Kept.{IsKept, first_waiting, with_item, with_step, with_tried}

-- the first item that waits is one of them, if there is one
pub first_most : (items : List Item) → first_waiting items ≤ length items
first_most [] = omega arith
first_most (item ∷ items) = by_wait (is_waiting item.step) (first_most items)
  where
    by_wait : (b : Bool) → first_waiting items ≤ length items → cond (not b) (1 + first_waiting items) 0 ≤ suc (length items)
    by_wait true e = omega arith
    by_wait false e = omega (arith, e)

pub next_is : (items : List Item) (n : ℕ) → next_item items ≡ Some n → (n ≡ first_waiting items) × (n < length items)
next_is items n e = by_order (nat_lt (first_waiting items) (length items)) refl e
  where
    by_order : (b : Bool) → nat_lt (first_waiting items) (length items) ≡ b → cond b (Some (first_waiting items)) None ≡ Some n → (n ≡ first_waiting items) × (n < length items)
    by_order true t f = let same : first_waiting items ≡ n = cc in (sym same, omega (arith, ltb-true (first_waiting items) (length items) t, same))
    by_order false t f = cc

pub none_is : (items : List Item) → next_item items ≡ None → first_waiting items ≡ length items
none_is items e = by_order (nat_lt (first_waiting items) (length items)) refl e
  where
    by_order : (b : Bool) → nat_lt (first_waiting items) (length items) ≡ b → cond b (Some (first_waiting items)) None ≡ None → first_waiting items ≡ length items
    by_order true t f = cc
    by_order false t f = let least = ltb-false (first_waiting items) (length items) t in omega (arith, least, first_most items)

-- how many attempts at the next item came back is said by that item
tried_first : (items : List Item) → tried_next items ≡ tried_of items (first_waiting items)
tried_first [] = refl
tried_first (item ∷ items) = by_step item.step (tried_first items)
  where
    by_step : (step : Planned) → tried_next items ≡ tried_of items (first_waiting items)
        → tried_then step item.tried (tried_next items) ≡ tried_of (item ∷ items) (cond (not (is_waiting step)) (1 + first_waiting items) 0)
    by_step (Decided result) rest = rest ∙ ap (tried_of (item ∷ items)) (let one : suc (first_waiting items) ≡ 1 + first_waiting items = omega arith in one)
    by_step (Sends call) rest = refl

none_tried : (items : List Item) → first_waiting items ≡ length items → tried_next items ≡ 0
none_tried [] e = refl
none_tried (item ∷ items) e = by_step item.step (λ m. none_tried items m) e
  where
    by_step : (step : Planned) → (first_waiting items ≡ length items → tried_next items ≡ 0)
        → cond (not (is_waiting step)) (1 + first_waiting items) 0 ≡ suc (length items) → tried_then step item.tried (tried_next items) ≡ 0
    by_step (Decided result) rest m = rest (omega (arith, m))
    by_step (Sends call) rest m = absurd (omega (arith, m))

pub tried_there : (items : List Item) → tried_next items ≡ option_map_or (tried_of items) (next_item items) 0
tried_there items = by_next (next_item items) refl
  where
    by_next : (next : Option ℕ) → next_item items ≡ next → tried_next items ≡ option_map_or (tried_of items) next 0
    by_next None e = none_tried items (none_is items e)
    by_next (Some n) e = tried_first items ∙ ap (tried_of items) (sym (next_is items n e).0)

-- the item with this number is the next
pub is_next_so : (item : ℕ) (items : List Item) → is_item item items ≡ true → (first_waiting items ≡ item) × (item < length items)
is_next_so item items e = by_next (next_item items) refl e
  where
    by_next : (next : Option ℕ) → next_item items ≡ next → option_map_or (λ n. nat_eq n item) next false ≡ true → (first_waiting items ≡ item) × (item < length items)
    by_next None f t = cc
    by_next (Some n) f t =
        let same = eqb-true n item t in
        let is = next_is items n f in
        (omega (arith, same, is.0), omega (arith, same, is.1))

-- a task that isn't over has a next item
pub goes_on_at : (items : List Item) → is_over items ≡ false → (n : ℕ) × (next_item items ≡ Some n)
goes_on_at items e = by_next (some_unreachable (ended items)) (next_item items) e
  where
    by_next : (lost : Bool) (next : Option ℕ) → (lost || is_none next) ≡ false → (n : ℕ) × (next ≡ Some n)
    by_next true next f = cc
    by_next false None f = cc
    by_next false (Some n) f = (n, refl)

-- the search for the next item
pub next_here : (items : List Item) (n : ℕ) (item : Item) → n ≤ first_waiting items → n < length items → item ≡ get_or items n item → waits item ≡ true → Some n ≡ next_item items
next_here items n item l b at w = by_order (nat_lt n (first_waiting items)) refl
  where
    chosen : n ≡ first_waiting items → Some n ≡ next_item items
    chosen same = rw (← same) (rw (lt-ltb n (length items) b) refl)

    by_order : (lower : Bool) → nat_lt n (first_waiting items) ≡ lower → Some n ≡ next_item items
    by_order true e =
        let fails = fails_before_first waits items n item (ltb-true n (first_waiting items) e) in
        let passes : waits (get_or items n item) ≡ true = ap waits (sym at) ∙ w in
        cc
    by_order false e = chosen (let least = ltb-false n (first_waiting items) e in omega (arith, least, l))

pub next_past : (items : List Item) (n : ℕ) (item : Item) → n ≤ first_waiting items → n < length items → item ≡ get_or items n item → waits item ≡ false → n + 1 ≤ first_waiting items
next_past items n item l b at w = by_order (nat_lt n (first_waiting items)) refl
  where
    by_order : (lower : Bool) → nat_lt n (first_waiting items) ≡ lower → n + 1 ≤ first_waiting items
    by_order true e = let more = ltb-true n (first_waiting items) e in omega (arith, more)
    by_order false e =
        let least = ltb-false n (first_waiting items) e in
        let here : first_waiting items ≡ n = omega (arith, least, l) in
        let passes = passes_at_first waits items item (let inside : first_waiting items < length items = omega (arith, here, b) in inside) in
        let fails : waits (get_or items n item) ≡ false = ap waits (sym at) ∙ w in
        let holds : waits (get_or items n item) ≡ true = ap (λ k. waits (get_or items k item)) (sym here) ∙ passes in
        cc

pub next_nowhere : (items : List Item) (n : ℕ) → n ≤ first_waiting items → length items ≤ n → None ≡ next_item items
next_nowhere items n l b = let most : length items ≤ first_waiting items = omega (arith, l, b) in rw (le-ltb (first_waiting items) (length items) most) refl

-- one item comes back
pub length_back : (judge : Item → Call → Back) (items : List Item) → length (back_in judge items) ≡ length items
length_back judge [] = refl
length_back judge (item ∷ items) = by_step item.step (length_back judge items)
  where
    by_step : (step : Planned) → length (back_in judge items) ≡ length items → length (back_at judge item items (back_in judge items) step) ≡ suc (length items)
    by_step (Decided result) e = ap suc e
    by_step (Sends call) e = refl

pub back_none : (judge : Item → Call → Back) (items : List Item) → first_waiting items ≡ length items → back_in judge items ≡ items
back_none judge [] e = refl
back_none judge (item ∷ items) e = by_step item.step refl (λ m. back_none judge items m) e
  where
    by_step : (step : Planned) → item.step ≡ step → (first_waiting items ≡ length items → back_in judge items ≡ items)
        → cond (not (is_waiting step)) (1 + first_waiting items) 0 ≡ suc (length items)
        → back_at judge item items (back_in judge items) step ≡ item ∷ items
    by_step (Decided result) f rest m = ap (λ (xs : List Item). item ∷ xs) (rest (omega (arith, m)))
    by_step (Sends call) f rest m = absurd (omega (arith, m))

pub back_nothing : (judge : Item → Call → Back) (items : List Item) → next_item items ≡ None → items ≡ back_in judge items
back_nothing judge items e = sym (back_none judge items (none_is items e))

-- there is no attempt then
retried_none : (judge : Item → Call → Back) (items : List Item) → first_waiting items ≡ length items → retried_in judge items ≡ None
retried_none judge [] e = refl
retried_none judge (item ∷ items) e = by_step item.step (λ m. retried_none judge items m) e
  where
    by_step : (step : Planned) → (first_waiting items ≡ length items → retried_in judge items ≡ None)
        → cond (not (is_waiting step)) (1 + first_waiting items) 0 ≡ suc (length items)
        → retried_then judge item (retried_in judge items) step ≡ None
    by_step (Decided result) rest m = rest (omega (arith, m))
    by_step (Sends call) rest m = absurd (omega (arith, m))

pub retried_nothing : (judge : Item → Call → Back) (items : List Item) → next_item items ≡ None → None ≡ retried_in judge items
retried_nothing judge items e = sym (retried_none judge items (none_is items e))

-- ---- how far a task is in its items
most_tried : (tried : ℕ) → tried_most tried ≤ 100
most_tried tried = by_order (nat_lt tried 100) refl
  where
    by_order : (few : Bool) → nat_lt tried 100 ≡ few → cond few tried 100 ≤ 100
    by_order true e = let less = ltb-true tried 100 e in omega (arith, less)
    by_order false e = omega arith

-- one attempt more
more_tried : (tried : ℕ) → nat_lt tried 100 ≡ true → tried_most tried + 1 ≤ tried_most (tried + 1)
more_tried tried e = by_order (nat_lt (tried + 1) 100) refl
  where
    by_order : (few : Bool) → nat_lt (tried + 1) 100 ≡ few → cond (nat_lt tried 100) tried 100 + 1 ≤ cond few (tried + 1) 100
    by_order true f = rw e (omega arith)
    by_order false f = let less = ltb-true tried 100 e in rw e (omega (arith, less))

rank_within : (first length tried : ℕ) → first ≤ length → tried ≤ 100 → (first ≡ length → tried ≡ 0) → 101 * first + tried ≤ 101 * length
rank_within first length tried l m none = by_order (nat_lt first length) refl
  where
    by_order : (less : Bool) → nat_lt first length ≡ less → 101 * first + tried ≤ 101 * length
    by_order true e = let less = ltb-true first length e in omega (arith, less, m)
    by_order false e =
        let least = ltb-false first length e in
        let same : first ≡ length = omega (arith, least, l) in
        let nothing = none same in
        omega (arith, same, nothing)

pub rank_most : (items : List Item) → rank items ≤ 101 * length items
rank_most items =
    rank_within (first_waiting items) (length items) (tried_most (tried_next items)) (first_most items) (most_tried (tried_next items)) (λ e. ap tried_most (none_tried items e))

came_later : (back : Back) (item : Item) (items : List Item) (call : Call) → item.step ≡ Sends call → tried_most item.tried + 1 ≤ rank (came back item ∷ items)
came_later (Ends result) item items call e = let most = most_tried item.tried in omega (arith, most)
came_later (Again result) item items call e = by_order (nat_lt item.tried 100) refl
  where
    by_order : (few : Bool) → nat_lt item.tried 100 ≡ few
        → tried_most item.tried + 1 ≤ rank (cond few (record item { tried = item.tried + 1 }) (record item { step = Decided result }) ∷ items)
    by_order true f = rw e (let more = more_tried item.tried f in omega (arith, more))
    by_order false f = let most = most_tried item.tried in omega (arith, most)

pub back_ranks : (judge : Item → Call → Back) (items : List Item) → first_waiting items < length items → rank items + 1 ≤ rank (back_in judge items)
back_ranks judge [] l = absurd (omega (arith, l))
back_ranks judge (item ∷ items) l = by_step item.step refl (λ m. back_ranks judge items m) l
  where
    by_step : (step : Planned) → item.step ≡ step → (first_waiting items < length items → rank items + 1 ≤ rank (back_in judge items))
        → cond (not (is_waiting step)) (1 + first_waiting items) 0 < suc (length items)
        → 101 * cond (not (is_waiting step)) (1 + first_waiting items) 0 + tried_most (tried_then step item.tried (tried_next items)) + 1
        ≤ rank (back_at judge item items (back_in judge items) step)
    by_step (Decided result) e rest m = let more = rest (omega (arith, m)) in rw e (omega (arith, more))
    by_step (Sends call) e rest m = let later = came_later (judge item call) item items call e in omega (arith, later)

-- what goes out next, in the numbers of attempts
next_number : (tried first item : ℕ) → first ≡ item → 101 * item + attempt_after tried ≡ 101 * first + tried_most tried + 1
next_number tried first item same = by_order (nat_lt tried 100)
  where
    by_order : (few : Bool) → 101 * item + cond few (tried + 1) 101 ≡ 101 * first + cond few tried 100 + 1
    by_order true = omega (arith, same)
    by_order false = omega (arith, same)

pub next_rank : (item attempt : ℕ) (items : List Item) → is_item item items ≡ true → nat_eq (attempt_next items) attempt ≡ true → (101 * item + attempt ≡ rank items + 1) × (item < length items)
next_rank item attempt items e f =
    let is = is_next_so item items e in
    let same : attempt_next items ≡ attempt = eqb-true (attempt_next items) attempt f in
    (rw (← same) (next_number (tried_next items) (first_waiting items) item is.0), is.1)

-- the item that waits first
record IsSent (items : List Item) (n : ℕ) (call : Call) : Type 0 where
  item : Item
  there : slice_get items n ≡ Some item
  step : item.step ≡ Sends call

sent_in : (items : List Item) (n : ℕ) (call : Call) (found : Option Item) → slice_get items n ≡ found → option_map_or (λ (item : Item). call_of item.step) found None ≡ Some call → IsSent items n call
sent_in items n call None e f = cc
sent_in items n call (Some item) e f = by_step item.step refl f
  where
    by_step : (step : Planned) → item.step ≡ step → call_of step ≡ Some call → IsSent items n call
    by_step (Decided result) s t = cc
    by_step (Sends other) s t = let same : other ≡ call = cc in record { item = item; there = e; step = s ∙ ap Sends same }

is_sent : (items : List Item) (n : ℕ) (call : Call) → call_in items n ≡ Some call → IsSent items n call
is_sent items n call e = sent_in items n call (slice_get items n) refl e

some_is : {X : Type 0} (x y : X) → Some x ≡ Some y → x ≡ y
some_is x y e = cc

-- what it comes to stands in its place
back_set : (judge : Item → Call → Back) (items : List Item) (n : ℕ) (item : Item) (call : Call) → n ≡ first_waiting items → slice_get items n ≡ Some item → item.step ≡ Sends call
    → back_in judge items ≡ slice_set items n (came (judge item call) item)
back_set judge [] n item call f there s = cc
back_set judge (x ∷ xs) n item call f there s = by_step x.step refl (λ m g t. back_set judge xs m item call g t s) n f there
  where
    by_step : (step : Planned) → x.step ≡ step → ((m : ℕ) → m ≡ first_waiting xs → slice_get xs m ≡ Some item → back_in judge xs ≡ slice_set xs m (came (judge item call) item))
        → (n : ℕ) → n ≡ cond (not (is_waiting step)) (1 + first_waiting xs) 0 → slice_get (x ∷ xs) n ≡ Some item
        → back_at judge x xs (back_in judge xs) step ≡ slice_set (x ∷ xs) n (came (judge item call) item)
    by_step (Decided result) e rest zero g t = absurd (omega (arith, g))
    by_step (Decided result) e rest (suc n) g t = ap (λ (ys : List Item). x ∷ ys) (rest n (omega (arith, g)) t)
    by_step (Sends other) e rest zero g t =
        let same : x ≡ item = some_is x item t in
        let calls : other ≡ call = (let both : Sends other ≡ Sends call = sym e ∙ (ap (λ (y : Item). y.step) same ∙ s) in cc) in
        rw (same, calls) refl
    by_step (Sends other) e rest (suc n) g t = absurd (omega (arith, g))

-- and its attempt is the one that comes back
retried_there : (judge : Item → Call → Back) (items : List Item) (n : ℕ) (item : Item) (call : Call) → n ≡ first_waiting items → slice_get items n ≡ Some item → item.step ≡ Sends call
    → retried_in judge items ≡ retried_by (judge item call) item
retried_there judge [] n item call f there s = cc
retried_there judge (x ∷ xs) n item call f there s = by_step x.step refl (λ m g t. retried_there judge xs m item call g t s) n f there
  where
    by_step : (step : Planned) → x.step ≡ step → ((m : ℕ) → m ≡ first_waiting xs → slice_get xs m ≡ Some item → retried_in judge xs ≡ retried_by (judge item call) item)
        → (n : ℕ) → n ≡ cond (not (is_waiting step)) (1 + first_waiting xs) 0 → slice_get (x ∷ xs) n ≡ Some item
        → retried_then judge x (retried_in judge xs) step ≡ retried_by (judge item call) item
    by_step (Decided result) e rest zero g t = absurd (omega (arith, g))
    by_step (Decided result) e rest (suc n) g t = rest n (omega (arith, g)) t
    by_step (Sends other) e rest zero g t =
        let same : x ≡ item = some_is x item t in
        let calls : other ≡ call = (let both : Sends other ≡ Sends call = sym e ∙ (ap (λ (y : Item). y.step) same ∙ s) in cc) in
        rw (same, calls) refl
    by_step (Sends other) e rest (suc n) g t = absurd (omega (arith, g))

or_swap : (a b : Bool) → (a || b) ≡ (b || a)
or_swap true true = refl
or_swap true false = refl
or_swap false true = refl
or_swap false false = refl

or_inside : (a b c : Bool) → (a || (b || c)) ≡ ((a || b) || c)
or_inside true b c = refl
or_inside false b c = refl

-- an item with a result, in the words of a judge that gives it to whatever comes back
ends_later : (result : ItemResult) (items : List Item) → first_waiting items < length items → first_waiting items + 1 ≤ first_waiting (back_in (λ item call. Ends result) items)
ends_later result [] l = absurd (omega (arith, l))
ends_later result (item ∷ items) l = by_step item.step refl (λ m. ends_later result items m) l
  where
    by_step : (step : Planned) → item.step ≡ step → (first_waiting items < length items → first_waiting items + 1 ≤ first_waiting (back_in (λ item call. Ends result) items))
        → cond (not (is_waiting step)) (1 + first_waiting items) 0 < suc (length items)
        → cond (not (is_waiting step)) (1 + first_waiting items) 0 + 1 ≤ first_waiting (back_at (λ item call. Ends result) item items (back_in (λ item call. Ends result) items) step)
    by_step (Decided other) e rest m = let more = rest (omega (arith, m)) in rw e (omega (arith, more))
    by_step (Sends call) e rest m = omega arith

-- whether it lost its host is known then
lost_set : (result : ItemResult) (items : List Item) → first_waiting items < length items
    → some_unreachable (ended (back_in (λ item call. Ends result) items)) ≡ (some_unreachable (ended items) || is_unreachable result.ending)
lost_set result [] l = absurd (omega (arith, l))
lost_set result (x ∷ xs) l = by_step x.step refl (λ m. lost_set result xs m) l
  where
    by_step : (step : Planned) → x.step ≡ step
        → (first_waiting xs < length xs → some_unreachable (ended (back_in (λ item call. Ends result) xs)) ≡ (some_unreachable (ended xs) || is_unreachable result.ending))
        → cond (not (is_waiting step)) (1 + first_waiting xs) 0 < suc (length xs)
        → some_unreachable (ended (back_at (λ item call. Ends result) x xs (back_in (λ item call. Ends result) xs) step))
        ≡ (some_unreachable (result_then step (ended xs)) || is_unreachable result.ending)
    by_step (Decided other) e rest m =
        rw e
        (ap (λ b. is_unreachable other.ending || b) (rest (omega (arith, m)))
        ∙ or_inside (is_unreachable other.ending) (some_unreachable (ended xs)) (is_unreachable result.ending))
    by_step (Sends call) e rest m = or_swap (is_unreachable result.ending) (some_unreachable (ended xs))

-- in the words of the calls
item_there : (items : List Item) (n : ℕ) (f : Item → Item) (item : Item) (found : Option Item) → slice_get items n ≡ found → found ≡ Some item → with_item n f items ≡ slice_set items n (f item)
item_there items n f item found e g = rw (e ∙ g) refl

pub back_step : (judge : Item → Call → Back) (items : List Item) (n : ℕ) (call : Call) (back : Back) → next_item items ≡ Some n → call_in items n ≡ Some call
    → ((item : Item) → slice_get items n ≡ Some item → back ≡ judge item call) → with_item n (came back) items ≡ back_in judge items
back_step judge items n call back next calls is =
    let sent = is_sent items n call calls in
    let first = next_is items n next in
    item_there items n (came back) sent.item (slice_get items n) refl sent.there
    ∙ ap (λ (b : Back). slice_set items n (came b sent.item)) (is sent.item sent.there)
    ∙ sym (back_set judge items n sent.item call first.0 sent.there sent.step)

pub retried_step : (judge : Item → Call → Back) (items : List Item) (n : ℕ) (call : Call) (back : Back) → next_item items ≡ Some n → call_in items n ≡ Some call
    → ((item : Item) → slice_get items n ≡ Some item → back ≡ judge item call) → option_map_or (retried_by back) (slice_get items n) None ≡ retried_in judge items
retried_step judge items n call back next calls is =
    let sent = is_sent items n call calls in
    let first = next_is items n next in
    ap (λ (found : Option Item). option_map_or (retried_by back) found None) sent.there
    ∙ ap (λ (b : Back). retried_by b sent.item) (is sent.item sent.there)
    ∙ sym (retried_there judge items n sent.item call first.0 sent.there sent.step)

-- the next item has a call
waits_there : (items : List Item) → first_waiting items < length items → (call : Call) × (call_in items (first_waiting items) ≡ Some call)
waits_there [] l = absurd (omega (arith, l))
waits_there (item ∷ items) l = by_step item.step refl (λ m. waits_there items m) l
  where
    by_step : (step : Planned) → item.step ≡ step → (first_waiting items < length items → (call : Call) × (call_in items (first_waiting items) ≡ Some call))
        → cond (not (is_waiting step)) (1 + first_waiting items) 0 < suc (length items) → (call : Call) × (call_in (item ∷ items) (cond (not (is_waiting step)) (1 + first_waiting items) 0) ≡ Some call)
    by_step (Decided result) e rest m =
        let found = rest (omega (arith, m)) in
        (found.0, ap (call_in (item ∷ items)) (let one : 1 + first_waiting items ≡ suc (first_waiting items) = omega arith in one) ∙ found.1)
    by_step (Sends call) e rest m = (call, ap call_of e)

pub has_call : (items : List Item) (n : ℕ) → next_item items ≡ Some n → (call : Call) × (call_in items n ≡ Some call)
has_call items n e =
    let is = next_is items n e in
    let found = waits_there items (omega (arith, is.0, is.1)) in
    (found.0, ap (call_in items) is.0 ∙ found.1)

pub no_call : (items : List Item) (n : ℕ) → next_item items ≡ Some n → call_in items n ≡ None → ⊥
no_call items n e f = let found = has_call items n e in let both : Some found.0 ≡ None = sym found.1 ∙ f in cc

-- an item that has its result, whatever that is
put_is : (items : List Item) (n : ℕ) (result : ItemResult) → next_item items ≡ Some n → with_step n (Decided result) items ≡ back_in (λ item call. Ends result) items
put_is items n result e = let found = has_call items n e in back_step (λ item call. Ends result) items n found.0 (Ends result) e found.1 (λ item there. refl)

pub put_later : (items : List Item) (n : ℕ) (result : ItemResult) → next_item items ≡ Some n → n + 1 ≤ first_waiting (with_step n (Decided result) items)
put_later items n result e =
    let is = next_is items n e in
    let later = ends_later result items (omega (arith, is.0, is.1)) in
    rw (put_is items n result e) (omega (arith, later, is.0))

pub put_lost : (items : List Item) (n : ℕ) (result : ItemResult) → next_item items ≡ Some n
    → some_unreachable (ended (with_step n (Decided result) items)) ≡ (some_unreachable (ended items) || is_unreachable result.ending)
put_lost items n result e =
    let is = next_is items n e in
    rw (put_is items n result e) (lost_set result items (omega (arith, is.0, is.1)))

-- one item is another
item_on : (item : Item) (items : List Item) (n : ℕ) (f : Item → Item) (found : Option Item) → slice_get items n ≡ found → with_item (suc n) f (item ∷ items) ≡ item ∷ with_item n f items
item_on item items n f None e = rw e refl
item_on item items n f (Some other) e = rw e refl

pub length_item : (items : List Item) (n : ℕ) (f : Item → Item) → length (with_item n f items) ≡ length items
length_item [] n f = refl
length_item (item ∷ items) zero f = refl
length_item (item ∷ items) (suc n) f = rw (item_on item items n f (slice_get items n) refl) (ap suc (length_item items n f))

-- the same steps of all items are the same next one, and the same results
pub same_first : (items : List Item) (n : ℕ) (f : Item → Item) → ((item : Item) → (f item).step ≡ item.step) → first_waiting (with_item n f items) ≡ first_waiting items
same_first [] n f same = refl
same_first (item ∷ items) zero f same = ap (λ (step : Planned). cond (not (is_waiting step)) (1 + first_waiting items) 0) (same item)
same_first (item ∷ items) (suc n) f same =
    rw (item_on item items n f (slice_get items n) refl) (ap (λ m. cond (not (is_waiting item.step)) (1 + m) 0) (same_first items n f same))

pub same_next : (items : List Item) (n : ℕ) (f : Item → Item) → ((item : Item) → (f item).step ≡ item.step) → next_item (with_item n f items) ≡ next_item items
same_next items n f same = rw (same_first items n f same, length_item items n f) refl

pub same_ended : (items : List Item) (n : ℕ) (f : Item → Item) → ((item : Item) → (f item).step ≡ item.step) → ended (with_item n f items) ≡ ended items
same_ended [] n f same = refl
same_ended (item ∷ items) zero f same = ap (λ (step : Planned). result_then step (ended items)) (same item)
same_ended (item ∷ items) (suc n) f same =
    rw (item_on item items n f (slice_get items n) refl) (ap (result_then item.step) (same_ended items n f same))

pub kept_tried : (items new : List Item) (n tried : ℕ) (next : Option ℕ) (lost : Bool) → new ≡ with_tried n tried items → IsKept items next lost → IsKept new next lost
kept_tried items new n tried next lost e kept =
    rw e
    (record {
      next_is = kept.next_is ∙ sym (same_next items n (λ item. record item { tried = tried }) (λ item. refl));
      lost_is = kept.lost_is ∙ sym (ap some_unreachable (same_ended items n (λ item. record item { tried = tried }) (λ item. refl)));
      most = rw (length_item items n (λ item. record item { tried = tried })) kept.most;
    })

-- an item as it was before
item_undone : (items : List Item) (n : ℕ) (f g : Item → Item) → ((item : Item) → slice_get items n ≡ Some item → g (f item) ≡ item) → with_item n g (with_item n f items) ≡ items
item_undone [] n f g back = refl
item_undone (item ∷ items) zero f g back = ap (λ (x : Item). x ∷ items) (back item refl)
item_undone (item ∷ items) (suc n) f g back =
    rw (item_on item items n f (slice_get items n) refl, item_on item (with_item n f items) n g (slice_get (with_item n f items) n) refl)
    (ap (λ (xs : List Item). item ∷ xs) (item_undone items n f g back))

item_twice : (items : List Item) (n : ℕ) (f g : Item → Item) → with_item n g (with_item n f items) ≡ with_item n (λ item. g (f item)) items
item_twice [] n f g = refl
item_twice (item ∷ items) zero f g = refl
item_twice (item ∷ items) (suc n) f g =
    rw (item_on item items n f (slice_get items n) refl, item_on item (with_item n f items) n g (slice_get (with_item n f items) n) refl, item_on item items n (λ x. g (f x)) (slice_get items n) refl)
    (ap (λ (xs : List Item). item ∷ xs) (item_twice items n f g))

tried_is : (items : List Item) (n tried : ℕ) (item : Item) → tried ≡ tried_of items n → slice_get items n ≡ Some item → tried ≡ item.tried
tried_is items n tried item e there = e ∙ ap (λ (found : Option Item). option_map_or (λ (i : Item). i.tried) found 0) there

pub try_undone : (items : List Item) (n tried : ℕ) → tried ≡ tried_of items n → with_tried n tried (with_tried n (tried + 1) items) ≡ items
try_undone items n tried e =
    item_undone items n (λ item. record item { tried = tried + 1 }) (λ item. record item { tried = tried })
    (λ item there. ap (λ m. record item { tried = m }) (tried_is items n tried item e there))

step_undone : (items : List Item) (n tried : ℕ) (step old : Planned) → tried ≡ tried_of items n → option_map (λ (item : Item). item.step) (slice_get items n) ≡ Some old
    → with_step n old (with_tried n tried (with_step n step items)) ≡ items
step_undone items n tried step old e f =
    ap (with_step n old) (item_twice items n (λ item. record item { step = step }) (λ item. record item { tried = tried }))
    ∙ item_undone items n (λ item. record item { step = step; tried = tried }) (λ item. record item { step = old })
    (λ item there.
    ap (λ m. record item { step = old; tried = m }) (tried_is items n tried item e there)
    ∙ ap (λ (s : Planned). record item { step = s }) (let both : Some old ≡ Some item.step = sym f ∙ ap (option_map (λ (i : Item). i.step)) there in some_is old item.step both))

nothing_undone : (items : List Item) (n : ℕ) (f : Item → Item) → slice_get items n ≡ None → with_item n f items ≡ items
nothing_undone items n f e = rw e refl

abbrev pub before_at : ℕ → ℕ → Option Planned → Option Before
before_at n tried found = option_map (λ (step : Planned). record { number = n; step = Some step; tried = tried }) found

pub put_undone : (items : List Item) (n tried : ℕ) (step : Planned) → tried ≡ tried_of items n
    → undone_items (before_at n tried (option_map (λ (item : Item). item.step) (slice_get items n))) (with_step n step items) ≡ items
put_undone items n tried step t = by_found (slice_get items n) refl
  where
    by_found : (found : Option Item) → slice_get items n ≡ found → undone_items (before_at n tried (option_map (λ (item : Item). item.step) found)) (with_step n step items) ≡ items
    by_found None e = nothing_undone items n (λ item. record item { step = step }) e
    by_found (Some item) e = step_undone items n tried step item.step t (ap (λ (o : Option Item). option_map (λ (item : Item). item.step) o) e)
