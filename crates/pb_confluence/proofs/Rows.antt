-- What a start, a send and a report leave of a host's whole effect at a place: all of it.
use Rattle.std.proofs.Common.{◌≡◌, ℕ, zero, suc, ◌+◌, ◌-◌, ◌*◌, ◌<◌, ◌≤◌, Bool, true, false, ◌&&◌, not, List, [], ◌∷◌, ◌++◌, length, cond, refl, sym, ◌∙◌, ap, subst, arith}
use Rattle.std.proofs.lemmas.Bool.{ltb-true, eqb-true, eq-eqb}
use Rattle.std.specs.Prelude.{◌==◌, nat_eq, nat_lt, Option, Some, None, option_map, unwrap_or, slice_get, if◌then◌else◌}
use Rattle.std.specs.List.{list_any}
use Rattle.std.specs.Option.{option_map_or}
use Rattle.pb_ids.specs.declared.numbers.HostNo.{HostNo}
use Rattle.pb_ids.specs.declared.numbers.Ticket.{Ticket}
use Rattle.pb_tree.specs.declared.tree.Reach.{Reach}
use Rattle.pb_tree.specs.declared.tree.Reach.TheVariants.{At, Done}
use Rattle.pb_tree.specs.Tree.{path_at}
use Rattle.pb_tree.specs.Answer.{AnswerOf}
use Rattle.pb_tree.specs.Laws.{IsAbove}
use Rattle.pb_tree.specs.Walk.{reach, is_halted}
use Rattle.pb_tree.proofs.Rise.{places_rise}
use Rattle.pb_inventory.specs.InventoryOf.{InventoryOf}
use Rattle.pb_conditions.specs.declared.attempt.Back.{Back}
use Rattle.pb_outcome.specs.declared.item.Item.{Item}
use Rattle.pb_outcome.specs.declared.job.Call.{Call}
use Rattle.pb_outcome.specs.declared.outcome.Form.{Form}
use Rattle.pb_outcome.specs.Items.{next_item, is_over}
use Rattle.pb_plan.specs.Plan.{PlayOf, PlanOf}
use Rattle.pb_task_vars.specs.Results.{items_at}
use Rattle.pb_host.specs.declared.host.LastTask.{LastTask}
use Rattle.pb_host.specs.declared.host.Running.{Running}
use Rattle.pb_host.specs.Attempts.{back_in, tried_next, tried_most, rank}
use Rattle.pb_host.specs.Calls.{call_in, delegate_in}
use Rattle.pb_host.specs.Ends.{answer_of}
use Rattle.pb_host.specs.Handlers.{notified_by}
use Rattle.pb_host.specs.Kept.{first_waiting}
use Rattle.pb_host.specs.Host.{HostOf, place_of, next_place, is_at, answered, ended, task_at, came_back, items_after, progressed, sent, reported, reported_running}
use Rattle.pb_host.proofs.InOrder.{next_is, goes_on_at, length_back, back_ranks}
use Rattle.pb_state.specs.Jobs.{AttemptOf, next_attempt, connector_for, job_with, named_job, placed_job, item_job, running_job, row_job}
use Rattle.pb_state.proofs.Walked.{not_halted, place_at}
use Rattle.pb_confluence.specs.Fixed.{Fixed, outcome_of}
use Rattle.pb_confluence.specs.Effect.{attempts_left, outcome_for, item_back, items_back, played_out, started, whole, completed, complete}

-- ---- places rise
abbrev pub IsAfter : ℕ → Option ℕ → Type 0
IsAfter p None = Unit {0}
IsAfter p (Some q) = p < q

abbrev pub AtLeast : Option ℕ → Option ℕ → Type 0
AtLeast p None = Unit {0}
AtLeast None (Some q) = ⊥
AtLeast (Some p) (Some q) = p ≤ q

pub above_after : (p : ℕ) (r : Reach) → IsAbove p r → IsAfter p (place_of r)
above_after p (At q) h = h
above_after p (Done ending) h = tt

in_after : (p : ℕ) (b : Bool) (q : Option ℕ) → IsAfter p q → IsAfter p (if b then q else None)
in_after p true q h = h
in_after p false q h = tt

not_both : (b c : Bool) → c ≡ false → not (b && c) ≡ true
not_both true c e = ap not e
not_both false c e = refl

-- a host that answered is behind the place where it stood, unless it was halted there
pub answered_after : (p : ℕ) (a : AnswerOf) (row : HostOf) → is_halted a.kind ≡ false → next_place row ≡ Some p → IsAfter p (next_place (answered a row))
answered_after p a row k e =
    in_after p row.in_batch (place_of (reach row.tree (row.answers ++ a ∷ [])))
    (above_after p (reach row.tree (row.answers ++ a ∷ []))
    (places_rise row.tree row.answers a p (place_at (reach row.tree row.answers) row.in_batch p e) (not_both (list_any (λ (b : AnswerOf). is_halted b.kind) row.answers) (is_halted a.kind) k)))

pub ended_after : (inventory : InventoryOf) (play : PlayOf) (p q : ℕ) (items : List Item) (row : HostOf) → next_place row ≡ Some p → IsAfter p (next_place (ended inventory play q items row))
ended_after inventory play p q items row e =
    answered_after p (answer_of (task_at play q items) (notified_by play q (task_at play q items))) row (not_halted (task_at play q items)) e

pub after_at_least : (p : ℕ) (q : Option ℕ) → IsAfter p q → AtLeast (Some p) q
after_at_least p None h = tt
after_at_least p (Some q) h = omega (arith, h)

-- a host behind a place isn't at it
pub not_at : (p : ℕ) (next : Option ℕ) → IsAfter p next → option_map_or (λ q. q == p) next false ≡ false
not_at p None h = refl
not_at p (Some q) h = differ (nat_eq q p) refl
  where
    differ : (b : Bool) → nat_eq q p ≡ b → b ≡ false
    differ true t = let e : q ≡ p = eqb-true q p t in absurd (omega (arith, e, h))
    differ false t = refl

pub is_here : (p : ℕ) (row : HostOf) → next_place row ≡ Some p → is_at p row ≡ true
is_here p row e = ap (λ (next : Option ℕ). option_map_or (λ q. q == p) next false) e ∙ eq-eqb p p refl

if_true : (b : Bool) (x y : HostOf) → b ≡ true → (if b then x else y) ≡ x
if_true true x y e = refl
if_true false x y e = cc

if_false : (b : Bool) (x y : HostOf) → b ≡ false → (if b then x else y) ≡ y
if_false true x y e = cc
if_false false x y e = refl

-- ---- what runs in a row of an open batch
abbrev pub RunsAt : Option ℕ → HostOf → Option Running → Type 0
RunsAt place row None = AtLeast place (next_place row)
RunsAt place row (Some r) = (place ≡ Some r.place) × (next_place row ≡ Some r.place) × (is_over r.items ≡ false)

-- the last finished task isn't behind a place
abbrev pub LastIn : Option ℕ → Option LastTask → Type 0
LastIn place None = Unit {0}
LastIn None (Some e) = Unit {0}
LastIn (Some p) (Some e) = e.place ≤ p

abbrev pub LastBefore : Option LastTask → Option ℕ → Type 0
LastBefore None next = Unit {0}
LastBefore (Some e) next = IsAfter e.place next

abbrev pub KnownAt : Option ℕ → HostOf → Option Running → Type 0
KnownAt place row None = LastIn place row.last × LastBefore row.last (next_place row)
KnownAt place row (Some r) = Unit {0}

abbrev pub IsWell : Option ℕ → HostOf → Type 0
IsWell place row = RunsAt place row row.running × KnownAt place row row.running

-- a row whose host runs this
abbrev pub running : Option Running → HostOf → HostOf
running x row = record row { running = x }

-- ---- the attempts that are left
most_tried : (tried : ℕ) → tried_most tried ≤ 100
most_tried tried = by_order (nat_lt tried 100) refl
  where
    by_order : (few : Bool) → nat_lt tried 100 ≡ few → cond few tried 100 ≤ 100
    by_order true e = let less = ltb-true tried 100 e in omega (arith, less)
    by_order false e = omega arith

one_more : (n : ℕ) → 0 < n → (m : ℕ) × (n ≡ suc m)
one_more zero l = absurd (omega (arith, l))
one_more (suc m) l = (m, refl)

some_left : (first count tried : ℕ) → first < count → tried ≤ 100 → 0 < 101 * count - (101 * first + tried)
some_left first count tried l m = omega (arith, l, m)

-- a task that isn't over has one
pub attempts_some : (items : List Item) → is_over items ≡ false → (m : ℕ) × (attempts_left items ≡ suc m)
attempts_some items e =
    let next = goes_on_at items e in
    let is = next_is items next.0 next.1 in
    one_more (attempts_left items) (some_left (first_waiting items) (length items) (tried_most (tried_next items)) (omega (arith, is.0, is.1)) (most_tried (tried_next items)))

less_left : (count before after m : ℕ) → before + 1 ≤ after → 101 * count - before ≤ suc m → 101 * count - after ≤ m
less_left count before after m more l = omega (arith, more, l)

-- and once it is back there are fewer
pub attempts_back : (judge : Item → Call → Back) (items : List Item) (m : ℕ) → is_over items ≡ false → attempts_left items ≤ suc m → attempts_left (back_in judge items) ≤ m
attempts_back judge items m e l =
    let next = goes_on_at items e in
    let is = next_is items next.0 next.1 in
    rw (length_back judge items) (less_left (length items) (rank items) (rank (back_in judge items)) m (back_ranks judge items (omega (arith, is.0, is.1))) l)

-- ---- one host goes through the items of its task
module _ (plan : PlanOf) (f : Fixed) (number : ℕ) (play : PlayOf) where
  -- where no task runs nothing comes back
  pub none_back : (n : ℕ) (row : HostOf) → row.running ≡ None → items_back plan f number play n row ≡ row
  none_back zero row e = refl
  none_back (suc n) row e = ap (λ (x : Option Running). option_map_or (λ (r : Running). items_back plan f number play n (item_back plan f number play row)) x row) e

  -- where as many attempts come back as are left, or more, the host comes to the same
  done_same : (m n p : ℕ) (items : List Item) (row : HostOf) (over : Bool) → is_over items ≡ over
      → (is_over items ≡ false
      → items_back plan f number play m (running (Some (record { place = p; items = items; out = None })) row) ≡ items_back plan f number play n (running (Some (record { place = p; items = items; out = None })) row))
      → items_back plan f number play m (if over then ended plan.inventory play p items row else running (Some (record { place = p; items = items; out = None })) row)
      ≡ items_back plan f number play n (if over then ended plan.inventory play p items row else running (Some (record { place = p; items = items; out = None })) row)
  done_same m n p items row true o on = none_back m (ended plan.inventory play p items row) refl ∙ sym (none_back n (ended plan.inventory play p items row) refl)
  done_same m n p items row false o on = on o

  pub enough_back : (m n : ℕ) (r : Running) (row : HostOf) → is_over r.items ≡ false → attempts_left r.items ≤ m → attempts_left r.items ≤ n
      → items_back plan f number play m (running (Some r) row) ≡ items_back plan f number play n (running (Some r) row)
  enough_back zero n r row over l k = let some = attempts_some r.items over in let left = some.1 in absurd (omega (arith, left, l))
  enough_back (suc m) zero r row over l k = let some = attempts_some r.items over in let left = some.1 in absurd (omega (arith, left, k))
  enough_back (suc m) (suc n) r row over l k =
      done_same m n r.place (items_after plan play row.host row.facts (outcome_for plan f number play (running (Some r) row)) r) (running (Some r) row)
      (is_over (items_after plan play row.host row.facts (outcome_for plan f number play (running (Some r) row)) r)) refl
      (λ going.
      enough_back m n (record { place = r.place; items = items_after plan play row.host row.facts (outcome_for plan f number play (running (Some r) row)) r; out = None }) row going
      (attempts_back (came_back plan play row.host row.facts r.place (outcome_for plan f number play (running (Some r) row))) r.items m over l)
      (attempts_back (came_back plan play row.host row.facts r.place (outcome_for plan f number play (running (Some r) row))) r.items n over k))

  -- a host that is behind a place, and runs nothing, is as it was
  pub passed : (p : ℕ) (row : HostOf) → row.running ≡ None → is_at p row ≡ false → complete plan f number play p row ≡ row
  passed p row idle away =
      ap (λ (x : Option Running). completed plan f number play p x row) idle ∙ if_false (is_at p row) (whole plan f number play p row) row away

  ended_stays : (p q : ℕ) (items : List Item) (row : HostOf) → next_place row ≡ Some p → complete plan f number play p (ended plan.inventory play q items row) ≡ ended plan.inventory play q items row
  ended_stays p q items row e =
      passed p (ended plan.inventory play q items row) refl (not_at p (next_place (ended plan.inventory play q items row)) (ended_after plan.inventory play p q items row e))

  -- ---- a start
  begun : (p : ℕ) (items : List Item) (row : HostOf) (over : Bool) → next_place row ≡ Some p
      → complete plan f number play p (if over then ended plan.inventory play p items row else running (Some (record { place = p; items = items; out = None })) row)
      ≡ played_out plan f number play (if over then ended plan.inventory play p items row else running (Some (record { place = p; items = items; out = None })) row).running
      (if over then ended plan.inventory play p items row else running (Some (record { place = p; items = items; out = None })) row)
  begun p items row true e = ended_stays p p items row e
  begun p items row false e = refl

  pub start_whole : (p : ℕ) (row : HostOf) → row.running ≡ None → next_place row ≡ Some p → complete plan f number play p (started plan play p row) ≡ complete plan f number play p row
  start_whole p row idle at =
      begun p (items_at plan play row.host row.facts p) row (is_over (items_at plan play row.host row.facts p)) at
      ∙ sym (if_true (is_at p row) (whole plan f number play p row) row (is_here p row at))
      ∙ sym (ap (λ (x : Option Running). completed plan f number play p x row) idle)

  -- ---- a send
  sent_goes : (o : Form) (ticket : Ticket) (r : Running) (row : HostOf) (items : List Item) (over : Bool)
      → ◌≡◌ {A = HostOf} (if over then ended plan.inventory play r.place items (sent ticket (running (Some r) row)) else running (Some (record { place = r.place; items = items; out = None })) (sent ticket (running (Some r) row)))
      (if over then ended plan.inventory play r.place items (running (Some r) row) else running (Some (record { place = r.place; items = items; out = None })) (running (Some r) row))
  sent_goes o ticket r row items true = refl
  sent_goes o ticket r row items false = refl

  sent_back : (o : Form) (ticket : Ticket) (r : Running) (row : HostOf) → reported plan play o (sent ticket (running (Some r) row)) ≡ reported plan play o (running (Some r) row)
  sent_back o ticket r row = sent_goes o ticket r row (items_after plan play row.host row.facts o r) (is_over (items_after plan play row.host row.facts o r))

  pub sent_items : (n : ℕ) (ticket : Ticket) (r : Running) (row : HostOf) → items_back plan f number play (suc n) (sent ticket (running (Some r) row)) ≡ items_back plan f number play (suc n) (running (Some r) row)
  sent_items n ticket r row = ap (items_back plan f number play n) (sent_back (outcome_for plan f number play (running (Some r) row)) ticket r row)

  pub send_whole : (p : ℕ) (ticket : Ticket) (row : HostOf) (r : Running) → row.running ≡ Some r → is_over r.items ≡ false → complete plan f number play p (sent ticket row) ≡ complete plan f number play p row
  send_whole p ticket row r runs over =
      let some = attempts_some r.items over in
      subst (λ (x : Option Running). complete plan f number play p (sent ticket (running x row)) ≡ complete plan f number play p (running x row)) (sym runs)
      (ap (λ (n : ℕ). items_back plan f number play n (sent ticket (running (Some r) row))) some.1 ∙ sent_items some.0 ticket r row
      ∙ sym (ap (λ (n : ℕ). items_back plan f number play n (running (Some r) row)) some.1))

  -- ---- a report
  came : (p m : ℕ) (items : List Item) (row : HostOf) (over : Bool) → is_over items ≡ over → next_place row ≡ Some p → attempts_left items ≤ m
      → complete plan f number play p (if over then ended plan.inventory play p items row else running (Some (record { place = p; items = items; out = None })) row)
      ≡ items_back plan f number play m (if over then ended plan.inventory play p items row else running (Some (record { place = p; items = items; out = None })) row)
  came p m items row true o at count = ended_stays p p items row at ∙ sym (none_back m (ended plan.inventory play p items row) refl)
  came p m items row false o at count = enough_back (attempts_left items) m (record { place = p; items = items; out = None }) row o (omega arith) count

  reported_with : (o : Form) (r : Running) (row : HostOf) → next_place row ≡ Some r.place → is_over r.items ≡ false → o ≡ outcome_for plan f number play (running (Some r) row)
      → complete plan f number play r.place (reported plan play o (running (Some r) row)) ≡ complete plan f number play r.place (running (Some r) row)
  reported_with o r row at over is =
      let some = attempts_some r.items over in
      let left = some.1 in
      came r.place some.0 (items_after plan play row.host row.facts o r) (running (Some r) row) (is_over (items_after plan play row.host row.facts o r)) refl at
      (attempts_back (came_back plan play row.host row.facts r.place o) r.items some.0 over (omega (arith, left)))
      ∙ ap (λ (v : Form). items_back plan f number play some.0 (reported plan play v (running (Some r) row))) is
      ∙ sym (ap (λ (n : ℕ). items_back plan f number play n (running (Some r) row)) some.1)

  pub report_whole : (o : Form) (row : HostOf) (r : Running) → row.running ≡ Some r → next_place row ≡ Some r.place → is_over r.items ≡ false → o ≡ outcome_for plan f number play row
      → complete plan f number play r.place (reported plan play o row) ≡ complete plan f number play r.place row
  report_whole o row r runs =
      subst
      (λ (x : Option Running). next_place (running x row) ≡ Some r.place → is_over r.items ≡ false → o ≡ outcome_for plan f number play (running x row)
      → complete plan f number play r.place (reported plan play o (running x row)) ≡ complete plan f number play r.place (running x row))
      (sym runs) (λ at over is. reported_with o r row at over is)

-- ---- rows stay well
began_well : (inventory : InventoryOf) (play : PlayOf) (p : ℕ) (items : List Item) (row : HostOf) (over : Bool) → is_over items ≡ over → next_place row ≡ Some p
    → IsWell (Some p) (if over then ended inventory play p items row else running (Some (record { place = p; items = items; out = None })) row)
began_well inventory play p items row true o at =
    let behind = ended_after inventory play p p items row at in
    (after_at_least p (next_place (ended inventory play p items row)) behind, (omega arith, behind))
began_well inventory play p items row false o at = ((refl, at, o), tt)

pub progressed_well : (inventory : InventoryOf) (play : PlayOf) (p : ℕ) (items : List Item) (row : HostOf) → next_place row ≡ Some p → IsWell (Some p) (progressed inventory play p items row)
progressed_well inventory play p items row at = began_well inventory play p items row (is_over items) refl at

pub sent_well : (place : Option ℕ) (ticket : Ticket) (row : HostOf) → IsWell place row → IsWell place (sent ticket row)
sent_well place ticket row = by_running row.running
  where
    by_running : (x : Option Running) → IsWell place (running x row) → IsWell place (sent ticket (running x row))
    by_running None h = h
    by_running (Some r) h = h

reported_by : (plan : PlanOf) (play : PlayOf) (o : Form) (p : ℕ) (row : HostOf) (x : Option Running) → IsWell (Some p) (running x row) → IsWell (Some p) (reported plan play o (running x row))
reported_by plan play o p row None h = h
reported_by plan play o p row (Some r) h =
    subst (λ (q : Option ℕ). IsWell q (progressed plan.inventory play r.place (items_after plan play row.host row.facts o r) (running (Some r) row))) (sym h.0.0)
    (progressed_well plan.inventory play r.place (items_after plan play row.host row.facts o r) (running (Some r) row) h.0.1)

pub reported_well : (plan : PlanOf) (play : PlayOf) (o : Form) (p : ℕ) (row : HostOf) → IsWell (Some p) row → IsWell (Some p) (reported plan play o row)
reported_well plan play o p row h = reported_by plan play o p row row.running h

-- ---- the outcome of a host's next job hangs on no ticket
named_ticket : (plan : PlanOf) (f : Fixed) (number : ℕ) (host : HostNo) (one other : Ticket) (item : AttemptOf) (delegate : Option (List ℕ)) (call : Call) (path : List ℕ) (name : Option (List ℕ))
    → outcome_of f (option_map (λ (n : List ℕ). job_with number host one item call n (unwrap_or delegate n) (connector_for plan.inventory host.0 delegate) path) name)
    ≡ outcome_of f (option_map (λ (n : List ℕ). job_with number host other item call n (unwrap_or delegate n) (connector_for plan.inventory host.0 delegate) path) name)
named_ticket plan f number host one other item delegate call path None = refl
named_ticket plan f number host one other item delegate call path (Some n) = refl

placed_ticket : (plan : PlanOf) (f : Fixed) (number : ℕ) (host : HostNo) (one other : Ticket) (item : AttemptOf) (delegate : Option (List ℕ)) (call : Call) (path : Option (List ℕ))
    → outcome_of f (option_map_or (named_job plan number host one item delegate call) path None) ≡ outcome_of f (option_map_or (named_job plan number host other item delegate call) path None)
placed_ticket plan f number host one other item delegate call None = refl
placed_ticket plan f number host one other item delegate call (Some path) = named_ticket plan f number host one other item delegate call path (slice_get plan.inventory.hosts host.0)

called_ticket : (plan : PlanOf) (f : Fixed) (number : ℕ) (host : HostNo) (one other : Ticket) (play : PlayOf) (p : ℕ) (item : AttemptOf) (delegate : Option (List ℕ)) (call : Option Call)
    → outcome_of f (option_map_or (placed_job plan number host one play p item delegate) call None) ≡ outcome_of f (option_map_or (placed_job plan number host other play p item delegate) call None)
called_ticket plan f number host one other play p item delegate None = refl
called_ticket plan f number host one other play p item delegate (Some call) = placed_ticket plan f number host one other item delegate call (path_at play.tree p)

item_ticket : (plan : PlanOf) (f : Fixed) (number : ℕ) (host : HostNo) (one other : Ticket) (play : PlayOf) (r : Running) (next : Option ℕ)
    → outcome_of f (option_map_or (item_job plan number host one play r) next None) ≡ outcome_of f (option_map_or (item_job plan number host other play r) next None)
item_ticket plan f number host one other play r None = refl
item_ticket plan f number host one other play r (Some n) = called_ticket plan f number host one other play r.place (next_attempt play r n) (delegate_in r.items n) (call_in r.items n)

running_ticket : (plan : PlanOf) (f : Fixed) (number : ℕ) (host : HostNo) (one other : Ticket) (play : PlayOf) (x : Option Running)
    → outcome_of f (option_map_or (running_job plan number host one play) x None) ≡ outcome_of f (option_map_or (running_job plan number host other play) x None)
running_ticket plan f number host one other play None = refl
running_ticket plan f number host one other play (Some r) = item_ticket plan f number host one other play r (next_item r.items)

pub any_ticket : (plan : PlanOf) (f : Fixed) (number : ℕ) (host : HostNo) (ticket : Ticket) (play : PlayOf) (row : HostOf) → row.host ≡ host.0
    → outcome_of f (row_job plan number host ticket play row) ≡ outcome_for plan f number play row
any_ticket plan f number host ticket play row is =
    running_ticket plan f number host ticket (record { 0 = zero }) play row.running
    ∙ ap (λ (h : ℕ). outcome_of f (row_job plan number (record { 0 = h }) (record { 0 = zero }) play row)) (sym is)
