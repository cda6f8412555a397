-- What a turn leaves: each host is behind the place that has turned.
use Rattle.std.proofs.Common.{◌≡◌, ◌≢◌, ◌⊎◌, inl, inr, ℕ, zero, suc, ◌+◌, ◌-◌, ◌<◌, ◌≤◌, Bool, true, false, ◌&&◌, ◌||◌, List, [], ◌∷◌, ◌++◌, map, refl, sym, ◌∙◌, ap, subst, arith}
use Rattle.std.proofs.lemmas.Bool.{eqb-true, eqb-false}
use Rattle.std.specs.Prelude.{◌==◌, nat_eq, Option, Some, None, min, if◌then◌else◌}
use Rattle.std.specs.List.{list_any}
use Rattle.std.specs.Option.{option_map_or}
use Rattle.pb_inventory.specs.InventoryOf.{InventoryOf}
use Rattle.pb_tree.specs.declared.answer.Kind.{Kind}
use Rattle.pb_tree.specs.declared.answer.Kind.TheVariants as kinds
use Rattle.pb_tree.specs.declared.tree.Reach.{Reach}
use Rattle.pb_tree.specs.Answer.{AnswerOf}
use Rattle.pb_tree.specs.Laws.{counts}
use Rattle.pb_tree.specs.Tree.{TreeOf, size_of}
use Rattle.pb_tree.specs.Walk.{reach, is_halted}
use Rattle.pb_tree.proofs.Rise.{places_rise, second_passed, places_bounded}
use Rattle.pb_plan.specs.Plan.{PlayOf, PlanOf}
use Rattle.pb_host.specs.declared.host.LastTask.{LastTask}
use Rattle.pb_host.specs.Ends.{plain_answer, ends_run_once}
use Rattle.pb_host.specs.Host.{HostOf, place_of, next_place, is_at, answered}
use Rattle.pb_hosts.specs.Hosts.{lesser, least_place}
use Rattle.pb_hosts.specs.Turn.{BatchOf, ends_run_once_at, has_done_run_once, source, copied, copied_if, with_copy, copies, is_halting, halted, turned}
use Rattle.pb_hosts.proofs.Turning.{IsGiven, Goes, at_is, halted_goes}
use Rattle.pb_state.proofs.Idle.{lesser_is}
use Rattle.pb_state.proofs.Walked.{place_at, in_if}
use Rattle.pb_state.proofs.Walks.{IsIn, AllIn}
use Rattle.pb_confluence.specs.Fixed.{Fixed}
use Rattle.pb_confluence.specs.Together.{visited, at_place, at_places}
use Rattle.pb_independence.proofs.Tests.{and_right}
use Rattle.pb_confluence.proofs.Lists.{Every, every_map, every_other, or_right_true}
use Rattle.pb_confluence.proofs.Once.{IsIdle, Fresh}
use Rattle.pb_confluence.proofs.Rows.{IsAfter, AtLeast, LastIn, above_after, answered_after, not_at, is_here}

-- an idle host of the place, before the turn and after it
abbrev pub IsThere : ℕ → HostOf → Type 0
IsThere p row = IsIdle row × AtLeast (Some p) (next_place row) × LastIn (Some p) row.last

abbrev pub IsTurned : ℕ → HostOf → Type 0
IsTurned p row = IsIdle row × IsAfter p (next_place row) × LastIn (Some p) row.last

pub after_over : (p q : ℕ) (next : Option ℕ) → p ≤ q → IsAfter q next → IsAfter p next
after_over p q None less h = tt
after_over p q (Some n) less h = omega (arith, less, h)

pub away_after : (p : ℕ) (next : Option ℕ) → AtLeast (Some p) next → option_map_or (λ q. q == p) next false ≡ false → IsAfter p next
away_after p None h e = tt
away_after p (Some q) h e = let other : q ≢ p = eqb-false q p e in omega (arith, h, other)

pub there_turned : (p : ℕ) (row : HostOf) → IsThere p row → is_at p row ≡ false → IsTurned p row
there_turned p row h e = (h.0, away_after p (next_place row) h.1 e, h.2)

-- ---- an answer that is given
inside_after : (q : ℕ) (r : Reach) (b : Bool) → IsAfter q (place_of r) → IsAfter q (if b then place_of r else None)
inside_after q r true h = h
inside_after q r false h = tt

given_by : (p q : ℕ) (a : AnswerOf) (row : HostOf) (b : Bool) → counts row.answers a ≡ b → next_place row ≡ Some q → p < q → IsAfter p (next_place (answered a row))
given_by p q a row true c e less =
    after_over p q (next_place (answered a row)) (omega (arith, less))
    (inside_after q (reach row.tree (row.answers ++ a ∷ [])) row.in_batch
    (above_after q (reach row.tree (row.answers ++ a ∷ [])) (places_rise row.tree row.answers a q (place_at (reach row.tree row.answers) row.in_batch q e) c)))
given_by p q a row false c e less =
    subst (λ (next : Option ℕ). IsAfter p next)
    (sym (ap (λ (r : Reach). if row.in_batch then place_of r else None) (second_passed row.tree row.answers a c) ∙ e)) less

given_turned : (p : ℕ) (row new : HostOf) → IsGiven row new → IsTurned p row → IsTurned p new
given_turned p row new given h =
    subst (IsTurned p) (sym given.is)
    (h.0, given_by p given.place (plain_answer given.kind) row (counts row.answers (plain_answer given.kind)) refl given.next (subst (IsAfter p) given.next h.1), h.2)

-- what leaves a row, or gives its host an answer, keeps it behind the place
pub goes_turned : (p : ℕ) (f : HostOf → HostOf) → Goes f → (row : HostOf) → IsTurned p row → IsTurned p (f row)
goes_turned p f goes row h = elim (goes row) [ inl same ↦ subst (IsTurned p) (sym same) h | inr given ↦ given_turned p row (f row) given h ]

-- ---- copies
run_once_end_kind : (kind : Kind) → ends_run_once kind ≡ true → is_halted kind ≡ false
run_once_end_kind kinds.Good e = refl
run_once_end_kind kinds.Bad e = refl
run_once_end_kind kinds.Halted e = cc
run_once_end_kind kinds.Gone e = refl
run_once_end_kind kinds.Ended e = refl

copying : (inventory : InventoryOf) (play : PlayOf) (p : ℕ) (finish : LastTask) (row : HostOf) (b : Bool) → is_at p row ≡ b → ends_run_once_at p finish ≡ true → IsThere p row → IsTurned p (if b then copied inventory play p finish row else row)
copying inventory play p finish row true e s h =
    (h.0, answered_after p (plain_answer finish.kind) row (run_once_end_kind finish.kind (and_right (finish.place == p) (ends_run_once finish.kind) s)) (at_is p (next_place row) e), h.2)
copying inventory play p finish row false e s h = there_turned p row h e

copied_last : (inventory : InventoryOf) (play : PlayOf) (p : ℕ) (last : Option LastTask) (row : HostOf) → option_map_or (ends_run_once_at p) last false ≡ true → IsThere p row → IsTurned p (option_map_or (copied_if inventory play p row) last row)
copied_last inventory play p None row s h = cc
copied_last inventory play p (Some finish) row s h = copying inventory play p finish row (is_at p row) refl s h

-- of a host that did the task for all
pub copy_turned : (inventory : InventoryOf) (play : PlayOf) (p : ℕ) (from row : HostOf) → has_done_run_once p from ≡ true → IsThere p row → IsTurned p (with_copy inventory play p (Some from) row)
copy_turned inventory play p from row s h = copied_last inventory play p from.last row s h

-- where a host isn't there it gets none
not_copied : (inventory : InventoryOf) (play : PlayOf) (p : ℕ) (from : Option HostOf) (row : HostOf) → is_at p row ≡ false → with_copy inventory play p from row ≡ row
not_copied inventory play p None row e = refl
not_copied inventory play p (Some from) row e = by_last from.last
  where
    by_at : (b : Bool) (new : HostOf) → b ≡ false → (if b then new else row) ≡ row
    by_at true new f = cc
    by_at false new f = refl

    by_last : (last : Option LastTask) → option_map_or (copied_if inventory play p row) last row ≡ row
    by_last None = refl
    by_last (Some finish) = by_at (is_at p row) (copied inventory play p finish row) e

-- ---- when a turn is possible: nobody is at the place any more, or one host did the task there for all
abbrev pub IsAway : ℕ → HostOf → Type 0
IsAway p row = IsIdle row × (is_at p row ≡ false)

abbrev pub MayTurn : PlayOf → ℕ → List HostOf → Type 0
MayTurn play p rows = Every (IsAway p) rows ⊎ ((from : HostOf) × (source play p rows ≡ Some from) × (has_done_run_once p from ≡ true))

away_copied : (inventory : InventoryOf) (play : PlayOf) (p : ℕ) (from : Option HostOf) (row : HostOf) → IsThere p row × IsAway p row → IsTurned p (with_copy inventory play p from row)
away_copied inventory play p from row h = subst (IsTurned p) (sym (not_copied inventory play p from row h.1.1)) (there_turned p row h.0 h.1.1)

both_there : (p : ℕ) (rows : List HostOf) → Every (IsThere p) rows → Every (IsAway p) rows → Every (λ row. IsThere p row × IsAway p row) rows
both_there p [] there away = tt
both_there p (row ∷ rows) there away = ((there.0, away.0), both_there p rows there.1 away.1)

copies_turned : (inventory : InventoryOf) (play : PlayOf) (p : ℕ) (rows : List HostOf) → Every (IsThere p) rows → MayTurn play p rows → Every (IsTurned p) (map (with_copy inventory play p (source play p rows)) rows)
copies_turned inventory play p rows there (inl away) =
    every_map (λ row. IsThere p row × IsAway p row) (IsTurned p) (with_copy inventory play p (source play p rows)) (λ row h. away_copied inventory play p (source play p rows) row h) rows (both_there p rows there away)
copies_turned inventory play p rows there (inr done) =
    subst (λ (from : Option HostOf). Every (IsTurned p) (map (with_copy inventory play p from) rows)) (sym done.1)
    (every_map (IsThere p) (IsTurned p) (with_copy inventory play p (Some done.0)) (λ row h. copy_turned inventory play p done.0 row done.2 h) rows there)

pub turn_turned : (inventory : InventoryOf) (play : PlayOf) (p : ℕ) (batch : BatchOf) → Every (IsThere p) batch.rows → MayTurn play p batch.rows → Every (IsTurned p) (turned inventory play p batch).rows
turn_turned inventory play p batch there may = by_halting (is_halting play p (copies inventory play p batch).rows)
  where
    by_halting : (b : Bool) → Every (IsTurned p) (if b then record { rows = map halted (copies inventory play p batch).rows; sizes_left = [] } else copies inventory play p batch).rows
    by_halting true =
        every_map (IsTurned p) (IsTurned p) halted (λ row h. goes_turned p halted halted_goes row h) (copies inventory play p batch).rows (copies_turned inventory play p batch.rows there may)
    by_halting false = copies_turned inventory play p batch.rows there may

-- ---- the batches that are left: as many as there were, or none where hosts were halted
abbrev pub IsLater : BatchOf → BatchOf → Type 0
IsLater batch new = (new.sizes_left ≡ batch.sizes_left) ⊎ (new.sizes_left ≡ [])

turned_later : (inventory : InventoryOf) (play : PlayOf) (p : ℕ) (batch : BatchOf) → IsLater batch (turned inventory play p batch)
turned_later inventory play p batch = by_halting (is_halting play p (copies inventory play p batch).rows)
  where
    by_halting : (b : Bool) → IsLater batch (if b then record { rows = map halted (copies inventory play p batch).rows; sizes_left = [] } else copies inventory play p batch)
    by_halting true = inr refl
    by_halting false = inl refl

then_later : (one two three : BatchOf) → IsLater one two → IsLater two three → IsLater one three
then_later one two three h (inr e) = inr e
then_later one two three (inl d) (inl e) = inl (e ∙ d)
then_later one two three (inr d) (inl e) = inr (e ∙ d)

pub places_later : (plan : PlanOf) (f : Fixed) (number : ℕ) (play : PlayOf) (n p : ℕ) (batch : BatchOf) → IsLater batch (at_places plan f number play n p batch)
places_later plan f number play zero p batch = inl refl
places_later plan f number play (suc n) p batch =
    then_later batch (if list_any (is_at p) batch.rows then visited plan f number play p batch else batch) (at_places plan f number play (suc n) p batch)
    (by_there (list_any (is_at p) batch.rows))
    (places_later plan f number play n (p + 1) (if list_any (is_at p) batch.rows then visited plan f number play p batch else batch))
  where
    by_there : (b : Bool) → IsLater batch (if b then visited plan f number play p batch else batch)
    by_there true = turned_later plan.inventory play p (record { rows = at_place plan f number play p batch.rows; sizes_left = batch.sizes_left })
    by_there false = inl refl

-- ---- nobody has done a later place
ends_run_once_not : (p q place : ℕ) (s b : Bool) → nat_eq place q ≡ b → p < q → place ≤ p → (b && s) ≡ false
ends_run_once_not p q place s true t less h = let same : place ≡ q = eqb-true place q t in absurd (omega (arith, same, h, less))
ends_run_once_not p q place s false t less h = refl

last_fresh : (p q : ℕ) (last : Option LastTask) → p < q → LastIn (Some p) last → option_map_or (ends_run_once_at q) last false ≡ false
last_fresh p q None less h = refl
last_fresh p q (Some e) less h = ends_run_once_not p q e.place (ends_run_once e.kind) (nat_eq e.place q) refl less h

pub turned_fresh : (p q : ℕ) (row : HostOf) → p < q → IsTurned p row → Fresh q row
turned_fresh p q row less h = (h.0, last_fresh p q row.last less h.2)

-- ---- the least place
least_left : (p q : Option ℕ) → AtLeast (lesser p q) p
least_left None None = tt
least_left None (Some q) = tt
least_left (Some p) None = omega arith
least_left (Some p) (Some q) = omega arith

least_right : (p q r : Option ℕ) → AtLeast q r → AtLeast (lesser p q) r
least_right p q None h = tt
least_right None q (Some r) h = h
least_right (Some p) None (Some r) h = absurd h
least_right (Some p) (Some q) (Some r) h = omega (arith, h)

pub least_below : (rows : List HostOf) → Every (λ row. AtLeast (least_place rows) (next_place row)) rows
least_below [] = tt
least_below (row ∷ rows) = (
  least_left (next_place row) (least_place rows),
  every_other (λ r. AtLeast (least_place rows) (next_place r)) (λ r. AtLeast (lesser (next_place row) (least_place rows)) (next_place r))
      (λ r h. least_right (next_place row) (least_place rows) (next_place r) h) rows (least_below rows),
)

pub least_after : (p : ℕ) (rows : List HostOf) → Every (λ row. IsAfter p (next_place row)) rows → IsAfter p (least_place rows)
least_after p [] all = tt
least_after p (row ∷ rows) all = over (next_place row) (least_place rows) all.0 (least_after p rows all.1)
  where
    over : (x y : Option ℕ) → IsAfter p x → IsAfter p y → IsAfter p (lesser x y)
    over None y h i = i
    over (Some x) None h i = h
    over (Some x) (Some y) h i = omega (arith, h, i)

-- where all are at a place or behind it, and some host is at it, it is the least
least_from : (p : ℕ) (rows : List HostOf) → Every (λ row. AtLeast (Some p) (next_place row)) rows → AtLeast (Some p) (least_place rows)
least_from p [] all = tt
least_from p (row ∷ rows) all = over (next_place row) (least_place rows) all.0 (least_from p rows all.1)
  where
    over : (x y : Option ℕ) → AtLeast (Some p) x → AtLeast (Some p) y → AtLeast (Some p) (lesser x y)
    over None y h i = i
    over (Some x) None h i = h
    over (Some x) (Some y) h i = omega (arith, h, i)

first_least : (p : ℕ) (y : Option ℕ) → AtLeast (Some p) y → lesser (Some p) y ≡ Some p
first_least p None h = refl
first_least p (Some y) h = ap Some (let least : min p y ≡ p = omega (arith, h) in least)

rest_least : (p : ℕ) (x : Option ℕ) → AtLeast (Some p) x → lesser x (Some p) ≡ Some p
rest_least p None h = refl
rest_least p (Some x) h = ap Some (let least : min x p ≡ p = omega (arith, h) in least)

pub least_is : (p : ℕ) (rows : List HostOf) → Every (λ row. AtLeast (Some p) (next_place row)) rows → list_any (is_at p) rows ≡ true → least_place rows ≡ Some p
least_is p [] all e = cc
least_is p (row ∷ rows) all e = by_at (is_at p row) refl e (λ f. least_is p rows all.1 f)
  where
    by_at : (b : Bool) → is_at p row ≡ b → (b || list_any (is_at p) rows) ≡ true → (list_any (is_at p) rows ≡ true → least_place rows ≡ Some p) → least_place (row ∷ rows) ≡ Some p
    by_at true t f on = ap (λ (x : Option ℕ). lesser x (least_place rows)) (at_is p (next_place row) t) ∙ first_least p (least_place rows) (least_from p rows all.1)
    by_at false t f on = ap (λ (y : Option ℕ). lesser (next_place row) y) (on f) ∙ rest_least p (next_place row) all.0

-- a host is there, and it is a place of the tree
abbrev pub IsPlace : TreeOf → ℕ → List HostOf → Type 0
IsPlace tree q rows = (list_any (is_at q) rows ≡ true) × (q < size_of tree)

pub place_below : (tree : TreeOf) (q : ℕ) (row : HostOf) → IsIn tree row → next_place row ≡ Some q → q < size_of tree
place_below tree q row is e =
    let inside : q < size_of row.tree = (places_bounded row.tree row.answers q (place_at (reach row.tree row.answers) row.in_batch q e)).0 in
    subst (λ (t : TreeOf). q < size_of t) (is (in_if row.in_batch (place_of (reach row.tree row.answers)) q e)) inside

least_one : (tree : TreeOf) (q : ℕ) (row : HostOf) (rows : List HostOf) → IsIn tree row → (next_place row ≡ Some q) ⊎ (least_place rows ≡ Some q) → (least_place rows ≡ Some q → IsPlace tree q rows) → IsPlace tree q (row ∷ rows)
least_one tree q row rows is (inl e) on = (ap (λ (b : Bool). b || list_any (is_at q) rows) (is_here q row e), place_below tree q row is e)
least_one tree q row rows is (inr e) on = let more = on e in (or_right_true (is_at q row) (list_any (is_at q) rows) more.0, more.1)

pub least_there : (tree : TreeOf) (q : ℕ) (rows : List HostOf) → AllIn tree rows → least_place rows ≡ Some q → IsPlace tree q rows
least_there tree q [] all e = cc
least_there tree q (row ∷ rows) all e = least_one tree q row rows all.0 (lesser_is (next_place row) (least_place rows) q e) (λ more. least_there tree q rows all.1 more)

-- ---- from the current place on, with its turn
abbrev pub from_place : PlanOf → Fixed → ℕ → PlayOf → Option ℕ → BatchOf → BatchOf
from_place plan f number play None batch = batch
from_place plan f number play (Some p) batch = at_places plan f number play (size_of play.tree - (p + 1)) (p + 1) (visited plan f number play p batch)

-- places at which nobody stands change nothing
pub none_here : (p : ℕ) (rows : List HostOf) → Every (λ row. IsAfter p (next_place row)) rows → list_any (is_at p) rows ≡ false
none_here p [] all = refl
none_here p (row ∷ rows) all = ap (λ (b : Bool). b || list_any (is_at p) rows) (not_at p (next_place row) all.0) ∙ none_here p rows all.1

none_after : (p : ℕ) (q : Option ℕ) → AtLeast None q → IsAfter p q
none_after p None h = tt
none_after p (Some q) h = absurd h

some_after : (p m : ℕ) (q : Option ℕ) → p < m → AtLeast (Some m) q → IsAfter p q
some_after p m None less h = tt
some_after p m (Some q) less h = omega (arith, less, h)

if_away : (t : Bool) (xs ys : BatchOf) → t ≡ false → (if t then xs else ys) ≡ ys
if_away true xs ys e = cc
if_away false xs ys e = refl

if_there : (t : Bool) (xs ys : BatchOf) → t ≡ true → (if t then xs else ys) ≡ xs
if_there true xs ys e = refl
if_there false xs ys e = cc

module _ (plan : PlanOf) (f : Fixed) (number : ℕ) (play : PlayOf) where
  jump_none : (n a : ℕ) (batch : BatchOf) → Every (λ row. AtLeast None (next_place row)) batch.rows → at_places plan f number play n a batch ≡ batch
  jump_none zero a batch all = refl
  jump_none (suc n) a batch all =
      ap (at_places plan f number play n (a + 1))
      (if_away (list_any (is_at a) batch.rows) (visited plan f number play a batch) batch
      (none_here a batch.rows (every_other (λ row. AtLeast None (next_place row)) (λ row. IsAfter a (next_place row)) (λ row h. none_after a (next_place row) h) batch.rows all)))
      ∙ jump_none n (a + 1) batch all

  jumping : (n q k a : ℕ) (batch : BatchOf) (b : Bool) → nat_eq a q ≡ b → a ≤ q → n - a ≡ suc k → list_any (is_at q) batch.rows ≡ true → Every (λ row. AtLeast (Some q) (next_place row)) batch.rows
      → (a < q → at_places plan f number play k (a + 1) batch ≡ at_places plan f number play (n - (q + 1)) (q + 1) (visited plan f number play q batch))
      → at_places plan f number play k (a + 1) (if list_any (is_at a) batch.rows then visited plan f number play a batch else batch) ≡ at_places plan f number play (n - (q + 1)) (q + 1) (visited plan f number play q batch)
  jumping n q k a batch true t below e here all on =
      let same : a ≡ q = eqb-true a q t in
      let count : n - (q + 1) ≡ k = omega (arith, same, e) in
      ap (λ (x : ℕ). at_places plan f number play k (x + 1) (if list_any (is_at x) batch.rows then visited plan f number play x batch else batch)) same
      ∙ ap (at_places plan f number play k (q + 1)) (if_there (list_any (is_at q) batch.rows) (visited plan f number play q batch) batch here)
      ∙ sym (ap (λ (j : ℕ). at_places plan f number play j (q + 1) (visited plan f number play q batch)) count)
  jumping n q k a batch false t below e here all on =
      let other : a ≢ q = eqb-false a q t in
      let less : a < q = omega (arith, other, below) in
      ap (at_places plan f number play k (a + 1))
      (if_away (list_any (is_at a) batch.rows) (visited plan f number play a batch) batch
      (none_here a batch.rows (every_other (λ row. AtLeast (Some q) (next_place row)) (λ row. IsAfter a (next_place row)) (λ row h. some_after a q (next_place row) less h) batch.rows all)))
      ∙ on less

  jump_some : (n q k a : ℕ) (batch : BatchOf) → a ≤ q → q < n → n - a ≡ k → list_any (is_at q) batch.rows ≡ true → Every (λ row. AtLeast (Some q) (next_place row)) batch.rows
      → at_places plan f number play k a batch ≡ at_places plan f number play (n - (q + 1)) (q + 1) (visited plan f number play q batch)
  jump_some n q zero a batch below inside e here all = absurd (omega (arith, below, inside, e))
  jump_some n q (suc k) a batch below inside e here all =
      jumping n q k a batch (nat_eq a q) refl below e here all
      (λ less. jump_some n q k (a + 1) batch (omega (arith, less)) inside (let left_k : n - (a + 1) ≡ k = omega (arith, e) in left_k) here all)

  jump_to : (a : ℕ) (batch : BatchOf) (m : Option ℕ) → AllIn play.tree batch.rows → least_place batch.rows ≡ m → ((q : ℕ) → m ≡ Some q → a ≤ q)
      → at_places plan f number play (size_of play.tree - a) a batch ≡ from_place plan f number play m batch
  jump_to a batch None inside e low =
      jump_none (size_of play.tree - a) a batch (subst (λ (m : Option ℕ). Every (λ row. AtLeast m (next_place row)) batch.rows) e (least_below batch.rows))
  jump_to a batch (Some q) inside e low =
      let at = least_there play.tree q batch.rows inside e in
      jump_some (size_of play.tree) q (size_of play.tree - a) a batch (low q refl) at.1 refl at.0
      (subst (λ (m : Option ℕ). Every (λ row. AtLeast m (next_place row)) batch.rows) e (least_below batch.rows))

  pub jump : (a : ℕ) (batch : BatchOf) → AllIn play.tree batch.rows → ((q : ℕ) → least_place batch.rows ≡ Some q → a ≤ q)
      → at_places plan f number play (size_of play.tree - a) a batch ≡ from_place plan f number play (least_place batch.rows) batch
  jump a batch inside low = jump_to a batch (least_place batch.rows) inside refl low
