-- Each step of one host keeps the state's numbers within their bounds: a start, a send and a report.
use Rattle.std.proofs.Common.{◌≡◌, ℕ, zero, suc, ◌+◌, ◌*◌, ◌<◌, ◌≤◌, Bool, true, false, ◌&&◌, List, [], ◌∷◌, length, refl, ap, subst, arith}
use Rattle.std.specs.Prelude.{Option, Some, None, IfSome, slice_get, sum_by, option_map, is_none, not, if◌then◌else◌}
use Rattle.std.specs.Option.{option_map_or}
use Rattle.std.proofs.lemmas.List.Sums.{sum_by-cons}
use Rattle.pb_ids.specs.declared.numbers.Ticket.{Ticket}
use Rattle.pb_outcome.specs.declared.gather.TaskResult.{TaskResult}
use Rattle.pb_outcome.specs.declared.item.Item.{Item}
use Rattle.pb_outcome.specs.declared.outcome.Form.{Form}
use Rattle.pb_outcome.specs.Items.{is_over}
use Rattle.pb_facts.specs.Facts.{FactsOf}
use Rattle.pb_inventory.specs.InventoryOf.{InventoryOf}
use Rattle.pb_plan.specs.Plan.{PlayOf, PlanOf}
use Rattle.pb_tree.specs.Tree.{size_of}
use Rattle.pb_tree.specs.Walk.{one_halted}
use Rattle.pb_task_vars.specs.FromItems.{max_items}
use Rattle.pb_host.specs.declared.step_result.TaskEnd.{TaskEnd}
use Rattle.pb_host.specs.declared.host.Counts.{Counts}
use Rattle.pb_host.specs.declared.host.LastTask.{LastTask}
use Rattle.pb_host.specs.declared.host.Running.{Running}
use Rattle.pb_host.specs.Handlers.{notified_by}
use Rattle.pb_hosts.specs.Batches.{has_batch_left}
use Rattle.pb_host.specs.Host.{HostOf, none_counted, finished, finish_at, ended, task_at, facts_after, came_back, items_after, progressed, sent, sent_running, reported, reported_running}
use Rattle.pb_host.specs.Ends.{counted, counted_result, is_counted, more, IsAtMost}
use Rattle.pb_task_vars.specs.declared.gifts.DelegatedFacts.{DelegatedFacts}
use Rattle.pb_host.specs.Runs.{is_ticket, is_item, sends_running, awaits_running, awaits, may_send_item, is_running}
use Rattle.pb_hosts.specs.Hosts.{change, at_row}
use Rattle.pb_hosts.specs.Giving.{takes, with_delegated}
use Rattle.pb_state.specs.Bounds.{run_places, out_jobs, running_jobs, running_items, plays_behind, IsPlacedIn, IsWithin, AllWithin, max_jobs, most_jobs, IsBounded}
use Rattle.pb_host.specs.Attempts.{rank}
use Rattle.pb_hosts.proofs.Giving.{given_keeps, given_sum, length-given}
use Rattle.pb_host.proofs.InOrder.{rank_most, is_next_so, length_back, back_ranks}
use Rattle.pb_state.proofs.NextAttempt.{next_below}
use Rattle.pb_state.proofs.Stands.{stands_at}
use Rattle.pb_state.proofs.Walked.{stands_below, stands_in, one_halted_answer}

-- counts
more_at_most : (b : Bool) (n m : ℕ) → n ≤ m → more b n ≤ m + 1
more_at_most true n m e = omega (arith, e)
more_at_most false n m e = omega (arith, e)

pub at_most_to : (counts : Counts) (n m : ℕ) → n ≤ m → IsAtMost counts n → IsAtMost counts m
at_most_to counts n m e a =
    record {
      ok = omega (arith, e, a.ok);
      changed = omega (arith, e, a.changed);
      unreachable = omega (arith, e, a.unreachable);
      failed = omega (arith, e, a.failed);
      skipped = omega (arith, e, a.skipped);
      rescued = omega (arith, e, a.rescued);
      ignored = omega (arith, e, a.ignored);
    }

result_at_most : (is_caught : Bool) (result : TaskResult) (counts : Counts) (n : ℕ) → IsAtMost counts n → IsAtMost (counted_result is_caught result counts) (n + 1)
result_at_most is_caught result counts n m =
    record {
      ok = more_at_most _ counts.ok n m.ok;
      changed = more_at_most _ counts.changed n m.changed;
      unreachable = more_at_most _ counts.unreachable n m.unreachable;
      failed = more_at_most _ counts.failed n m.failed;
      skipped = more_at_most _ counts.skipped n m.skipped;
      rescued = more_at_most _ counts.rescued n m.rescued;
      ignored = more_at_most _ counts.ignored n m.ignored;
    }

counted_at_most : (task : TaskEnd) (counts : Counts) (n : ℕ) → IsAtMost counts n → IsAtMost (counted task counts) (n + 1)
counted_at_most task counts n m = by_counted (is_counted task)
  where
    by_counted : (counts_so : Bool) → IsAtMost (if counts_so then counted_result task.is_caught task.result counts else counts) (n + 1)
    by_counted true = result_at_most task.is_caught task.result counts n m
    by_counted false = at_most_to counts n (n + 1) (omega arith) m

pub none_at_most : (n : ℕ) → IsAtMost none_counted n
none_at_most n = record { ok = omega arith; changed = omega arith; unreachable = omega arith; failed = omega arith; skipped = omega arith; rescued = omega arith; ignored = omega arith }

pub change_on : (row : HostOf) (rows : List HostOf) (h : ℕ) (f : HostOf → HostOf) (found : Option HostOf) → slice_get rows h ≡ found → change (row ∷ rows) (suc h) f ≡ row ∷ change rows h f
change_on row rows h f None e = rw e refl
change_on row rows h f (Some r) e = rw e refl

-- one row changed by at least so much
change_most : (goes_on : Bool) (play : ℕ) (w : HostOf → ℕ) (f : HostOf → HostOf) (test : HostOf → Bool) (by : ℕ) → ((row : HostOf) → test row ≡ true → IsWithin true goes_on play row → w row + by ≤ w (f row)) → (rows : List HostOf) (h : ℕ) → at_row test rows h ≡ true → AllWithin true goes_on play rows → sum_by w rows + by ≤ sum_by w (change rows h f)
change_most goes_on play w f test by most [] h e all = cc
change_most goes_on play w f test by most (row ∷ rows) zero e all = let one = most row e all.0 in omega (arith, one, sum_by-cons w (f row) rows, sum_by-cons w row rows)
change_most goes_on play w f test by most (row ∷ rows) (suc h) e all =
    let rest = change_most goes_on play w f test by most rows h e all.1 in
    rw (change_on row rows h f (slice_get rows h) refl) (omega (arith, rest, sum_by-cons w row (change rows h f), sum_by-cons w row rows))

change_within : (goes_on : Bool) (play : ℕ) (f : HostOf → HostOf) (test : HostOf → Bool) → ((row : HostOf) → test row ≡ true → IsWithin true goes_on play row → IsWithin true goes_on play (f row)) → (rows : List HostOf) (h : ℕ) → at_row test rows h ≡ true → AllWithin true goes_on play rows → AllWithin true goes_on play (change rows h f)
change_within goes_on play f test keeps [] h e w = cc
change_within goes_on play f test keeps (row ∷ rows) zero e w = (keeps row e w.0, w.1)
change_within goes_on play f test keeps (row ∷ rows) (suc h) e w =
    rw (change_on row rows h f (slice_get rows h) refl) (w.0, change_within goes_on play f test keeps rows h e w.1)

length_changed : (rows : List HostOf) (h : ℕ) (f : HostOf → HostOf) (test : HostOf → Bool) → at_row test rows h ≡ true → length (change rows h f) ≡ length rows
length_changed [] h f test e = cc
length_changed (row ∷ rows) zero f test e = refl
length_changed (row ∷ rows) (suc h) f test e = rw (change_on row rows h f (slice_get rows h) refl) (ap suc (length_changed rows h f test e))

-- a row that is changed keeps the bounds, and can have sent so much more
record Keeps (goes_on : Bool) (play : ℕ) (f : HostOf → HostOf) (test : HostOf → Bool) (by : ℕ) : Type 0 where
  within : (row : HostOf) → test row ≡ true → IsWithin true goes_on play row → IsWithin true goes_on play (f row)
  jobs : (row : HostOf) → test row ≡ true → IsWithin true goes_on play row → most_jobs true goes_on play row + by ≤ most_jobs true goes_on play (f row)

changed_bounded : (batch : ℕ) (sizes_left : List ℕ) (play sends by h : ℕ) (f : HostOf → HostOf) (test : HostOf → Bool) (rows : List HostOf) → Keeps (has_batch_left sizes_left) play f test by → at_row test rows h ≡ true
    → IsBounded true batch sizes_left play sends rows → IsBounded true batch sizes_left play (sends + by) (change rows h f)
changed_bounded batch sizes_left play sends by h f test rows k e b =
    record {
      counts = change_within (has_batch_left sizes_left) play f test k.within rows h e b.counts;
      plays = b.plays;
      under_way = b.under_way;
      hosts = rw (length_changed rows h f test e) b.hosts;
      batches = b.batches;
      jobs = let more = change_most (has_batch_left sizes_left) play (most_jobs true (has_batch_left sizes_left) play) f test by k.jobs rows h e b.counts in omega (arith, more, b.jobs);
    }

-- the events
and_left : (a b : Bool) → (a && b) ≡ true → a ≡ true
and_left true b e = refl
and_left false b e = cc

and_right : (a b : Bool) → (a && b) ≡ true → b ≡ true
and_right true b e = e
and_right false b e = cc

pub none_running : (row : HostOf) (found : Option Running) → row.running ≡ found → is_running row ≡ false → row.running ≡ None
none_running row None e n = e
none_running row (Some r) e n = let yes : is_running row ≡ true = rw e refl in cc

-- a host of the batch is one of the play's
pub in_waits : (inside : Bool) (row : HostOf) → inside ≡ true → IsPlacedIn inside row → row.awaits_batch ≡ true
in_waits true row i w = w
in_waits false row i w = cc

pub as_in : (inside : Bool) (row : HostOf) → inside ≡ true → row.awaits_batch ≡ true → IsPlacedIn inside row
as_in true row i w = w
as_in false row i w = cc

finished_within : (goes_on : Bool) (play : ℕ) (finish : LastTask) (task : TaskEnd) (notified : List ℕ) (facts : FactsOf) (row : HostOf) → length (one_halted row.answers) < 16384 → row.in_batch ≡ true
    → IsWithin true goes_on play row → IsWithin true goes_on play (finished finish task notified facts row)
finished_within goes_on play finish task notified facts row b i w =
    let more = one_halted_answer row.answers task notified in (
      at_most_to (counted task row.counts) _ _ (omega (arith, more)) (counted_at_most task row.counts _ w.0),
      omega (arith, more, b),
      w.2,
      omega arith,
      as_in row.in_batch (finished finish task notified facts row) i (in_waits row.in_batch row i w.4),
    )

-- a host that starts has a place left
start_left : (place : Option ℕ) (row : HostOf) → size_of row.tree ≤ 16384 → stands_at place row ≡ true → length (one_halted row.answers) < 16384
start_left place row s e = omega (arith, s, stands_below place row e)

not_true : (b : Bool) → not b ≡ true → b ≡ false
not_true true e = cc
not_true false e = refl

stands_idle : (place : Option ℕ) (row : HostOf) → stands_at place row ≡ true → row.running ≡ None
stands_idle place row e = none_running row row.running refl (not_true (is_running row) (and_left (not (is_running row)) _ e))

progressed_within : (goes_on : Bool) (k p : ℕ) (inventory : InventoryOf) (play : PlayOf) (items : List Item) (row : HostOf) → length items ≤ max_items → length (one_halted row.answers) < 16384 → row.in_batch ≡ true
    → IsWithin true goes_on k row → IsWithin true goes_on k (progressed inventory play p items row)
progressed_within goes_on k p inventory play items row most b i w = by_over (is_over items)
  where
    by_over : (over : Bool) → IsWithin true goes_on k (if over then ended inventory play p items row else record row { running = Some (record { place = p; items = items; out = None }) })
    by_over true = finished_within goes_on k (finish_at play p items) (task_at play p items) (notified_by play p (task_at play p items)) (facts_after inventory play p (Some row.host) items row.facts) row b i w
    by_over false = (
      w.0,
      omega (arith, b),
      w.2,
      most,
      as_in row.in_batch (record row { running = Some (record { place = p; items = items; out = None }) }) i (in_waits row.in_batch row i w.4),
    )

-- a task that ends leaves room for all that its items can have sent
finished_jobs : (goes_on : Bool) (k n : ℕ) (finish : LastTask) (task : TaskEnd) (notified : List ℕ) (facts : FactsOf) (row : HostOf) → n ≤ max_jobs
    → (max_jobs * (16384 * plays_behind true k row + length (one_halted row.answers)) + n) + 0 ≤ most_jobs true goes_on k (finished finish task notified facts row)
finished_jobs goes_on k n finish task notified facts row m = let more = one_halted_answer row.answers task notified in omega (arith, more, m)

start_keeps : (goes_on : Bool) (k : ℕ) (place : Option ℕ) (inventory : InventoryOf) (play : PlayOf) (p : ℕ) (items : List Item) → length items ≤ max_items → Keeps goes_on k (progressed inventory play p items) (stands_at place) 0
start_keeps goes_on k place inventory play p items most =
    record {
      within = λ row e w. progressed_within goes_on k p inventory play items row most (start_left place row w.2 e) (stands_in place row e) w;
      jobs = λ row e w. let idle = stands_idle place row e in rw idle (by_over row (is_over items));
    }
  where
    by_over : (row : HostOf) (over : Bool)
        → (max_jobs * (16384 * plays_behind true k row + length (one_halted row.answers)) + 0) + 0 ≤ most_jobs true goes_on k (if over then ended inventory play p items row else record row { running = Some (record { place = p; items = items; out = None }) })
    by_over row true = finished_jobs goes_on k 0 (finish_at play p items) (task_at play p items) (notified_by play p (task_at play p items)) (facts_after inventory play p (Some row.host) items row.facts) row (omega arith)
    by_over row false = omega arith

-- a host that has a job to send runs, and no job of it is out
sent_runs : (ticket : Ticket) (found : Option Running) → run_places (option_map (sent_running ticket) found) ≡ run_places found
sent_runs ticket None = refl
sent_runs ticket (Some r) = refl

sent_items : (ticket : Ticket) (found : Option Running) → running_items (option_map (sent_running ticket) found) ≡ running_items found
sent_items ticket None = refl
sent_items ticket (Some r) = refl

one_more_out : (item attempt : ℕ) (ticket : Ticket) (found : Option Running) → option_map_or (sends_running item attempt) found false ≡ true → running_jobs found + 1 ≤ running_jobs (option_map (sent_running ticket) found)
one_more_out item attempt ticket None e = cc
one_more_out item attempt ticket (Some r) e =
    omega (arith, next_below item attempt r (and_right (is_none r.out) _ e), none_out r.out (and_left (is_none r.out) _ e))
  where
    none_out : (o : Option Ticket) → is_none o ≡ true → out_jobs o ≡ 0
    none_out None e = refl
    none_out (Some t) e = cc

sent_placed : (ticket : Ticket) (inside : Bool) (row : HostOf) → IsPlacedIn inside row → IsPlacedIn inside (sent ticket row)
sent_placed ticket true row w = w
sent_placed ticket false row w = rw (sent_runs ticket row.running) w

send_keeps : (goes_on : Bool) (play item attempt : ℕ) (ticket : Ticket) → Keeps goes_on play (sent ticket) (may_send_item item attempt) 1
send_keeps goes_on play item attempt ticket =
    record {
      within = λ row e w. (w.0, rw (sent_runs ticket row.running) w.1, w.2, rw (sent_items ticket row.running) w.3, sent_placed ticket row.in_batch row w.4);
      jobs = λ row e w. let more = one_more_out item attempt ticket row.running e in omega (arith, more);
    }

-- a host whose job is out runs
at_most_one : (o : Option Ticket) → out_jobs o ≤ 1
at_most_one None = omega arith
at_most_one (Some t) = omega arith

-- a host that runs is in the batch
run_in : (inside : Bool) (row : HostOf) (r : Running) → row.running ≡ Some r → IsPlacedIn inside row → inside ≡ true
run_in true row r f w = refl
run_in false row r f w = absurd (let none = subst (λ (v : Option Running). length (one_halted row.answers) + run_places v ≡ 0) f w in omega (arith, none))

report_keeps : (goes_on : Bool) (k item attempt : ℕ) (plan : PlanOf) (play : PlayOf) (outcome : Form) (ticket : Ticket) → Keeps goes_on k (reported plan play outcome) (awaits ticket item attempt) 0
report_keeps goes_on k item attempt plan play outcome ticket =
    record {
      within = λ row e w. reported_within row row.running refl w;
      jobs = λ row e w. reported_jobs row row.running refl e w;
    }
  where
    reported_within : (row : HostOf) (found : Option Running) → row.running ≡ found → IsWithin true goes_on k row → IsWithin true goes_on k (option_map_or (reported_running plan play outcome row) found row)
    reported_within row None f w = w
    reported_within row (Some r) f w =
        let bound = subst (λ (v : Option Running). length (one_halted row.answers) + run_places v ≤ 16384) f w.1 in
        let most = subst (λ (v : Option Running). running_items v ≤ max_items) f w.3 in
        let same : length (items_after plan play row.host row.facts outcome r) ≡ length r.items = length_back (came_back plan play row.host row.facts r.place outcome) r.items in
        progressed_within goes_on k r.place plan.inventory play (items_after plan play row.host row.facts outcome r) row (omega (arith, same, most)) (omega (arith, bound)) (run_in row.in_batch row r f w.4) w

    by_over : (row : HostOf) (r : Running) (items : List Item) (over : Bool) → length items ≡ length r.items → rank r.items + 1 ≤ rank items → rank items ≤ 101 * length items → length r.items ≤ max_items
        → (max_jobs * (16384 * plays_behind true k row + length (one_halted row.answers)) + running_jobs (Some r)) + 0
        ≤ most_jobs true goes_on k (if over then ended plan.inventory play r.place items row else record row { running = Some (record { place = r.place; items = items; out = None }) })
    by_over row r items true same sizes_left within most = finished_jobs goes_on k (running_jobs (Some r)) (finish_at play r.place items) (task_at play r.place items) (notified_by play r.place (task_at play r.place items)) (facts_after plan.inventory play r.place (Some row.host) items row.facts) row (omega (arith, most))
    by_over row r items false same sizes_left within most = omega (arith, same, sizes_left, within, at_most_one r.out)

    reported_jobs : (row : HostOf) (found : Option Running) → row.running ≡ found → option_map_or (awaits_running ticket item attempt) found false ≡ true → IsWithin true goes_on k row
        → most_jobs true goes_on k row + 0 ≤ most_jobs true goes_on k (option_map_or (reported_running plan play outcome row) found row)
    reported_jobs row None f e w = cc
    reported_jobs row (Some r) f e w =
        let first = is_next_so item r.items (and_left (is_item item r.items) _ (and_right (is_ticket ticket r.out) _ e)) in
        let most = subst (λ (v : Option Running). running_items v ≤ max_items) f w.3 in
        rw f
        (by_over row r (items_after plan play row.host row.facts outcome r) (is_over (items_after plan play row.host row.facts outcome r))
        (length_back (came_back plan play row.host row.facts r.place outcome) r.items)
        (back_ranks (came_back plan play row.host row.facts r.place outcome) r.items (omega (arith, first.0, first.1)))
        (rank_most (items_after plan play row.host row.facts outcome r)) most)

-- the clauses of the steps
changed_so : (batch : ℕ) (sizes_left : List ℕ) (play sends by h : ℕ) (is_open : Bool) (f : HostOf → HostOf) (test : HostOf → Bool) (rows new : List HostOf) (more : ℕ) → more ≡ sends + by → is_open ≡ true → Keeps (has_batch_left sizes_left) play f test by
    → at_row test rows h ≡ true → IsBounded is_open batch sizes_left play sends rows → new ≡ change rows h f → IsBounded is_open batch sizes_left play more new
changed_so batch sizes_left play sends by h true f test rows new more m o k e b n = rw (m, n) (changed_bounded batch sizes_left play sends by h f test rows k e b)
changed_so batch sizes_left play sends by h false f test rows new more m o k e b n = cc

-- what hosts are given keeps the bounds
takes_placed : (gift : DelegatedFacts) (inside : Bool) (row : HostOf) → IsPlacedIn inside row → IsPlacedIn inside (takes gift row)
takes_placed gift true row w = w
takes_placed gift false row w = w

takes_within : (goes_on : Bool) (play : ℕ) (gift : DelegatedFacts) (row : HostOf) → IsWithin true goes_on play row → IsWithin true goes_on play (takes gift row)
takes_within goes_on play gift row w = (w.0, w.1, w.2, w.3, takes_placed gift row.in_batch row w.4)

given_each : (goes_on : Bool) (play : ℕ) (gift : DelegatedFacts) (rows : List HostOf) (h : ℕ) → AllWithin true goes_on play rows → AllWithin true goes_on play (change rows h (takes gift))
given_each goes_on play gift [] h w = w
given_each goes_on play gift (row ∷ rows) zero w = (takes_within goes_on play gift row w.0, w.1)
given_each goes_on play gift (row ∷ rows) (suc h) w = rw (change_on row rows h (takes gift) (slice_get rows h) refl) (w.0, given_each goes_on play gift rows h w.1)

given_bounded : (batch : ℕ) (sizes_left : List ℕ) (play sends : ℕ) (gifts : List DelegatedFacts) (rows : List HostOf) → IsBounded true batch sizes_left play sends rows → IsBounded true batch sizes_left play sends (with_delegated gifts rows)
given_bounded batch sizes_left play sends gifts rows b =
    record {
      counts = given_keeps (AllWithin true (has_batch_left sizes_left) play) (λ gift all w. given_each (has_batch_left sizes_left) play gift all gift.host.0 w) gifts rows b.counts;
      plays = b.plays;
      under_way = b.under_way;
      hosts = rw (length-given gifts rows) b.hosts;
      batches = b.batches;
      jobs = let same = given_sum (most_jobs true (has_batch_left sizes_left) play) (λ gift row. refl) gifts rows in omega (arith, same, b.jobs);
    }

given_so : (batch : ℕ) (sizes_left : List ℕ) (play sends : ℕ) (is_open : Bool) (gifts : List DelegatedFacts) (rows new : List HostOf) → is_open ≡ true → IsBounded is_open batch sizes_left play sends rows → new ≡ with_delegated gifts rows
    → IsBounded is_open batch sizes_left play sends new
given_so batch sizes_left play sends true gifts rows new o b n = rw n (given_bounded batch sizes_left play sends gifts rows b)
given_so batch sizes_left play sends false gifts rows new o b n = cc

pub start_bounded : (batch : ℕ) (sizes_left : List ℕ) (k sends h : ℕ) (is_open : Bool) (place : Option ℕ) (inventory : InventoryOf) (play : PlayOf) (p : ℕ) (items : List Item) (gifts : List DelegatedFacts) (rows new : List HostOf) → length items ≤ max_items
    → IsBounded is_open batch sizes_left k sends rows → is_open ≡ true → at_row (stands_at place) rows h ≡ true → new ≡ with_delegated gifts (change rows h (progressed inventory play p items)) → IsBounded is_open batch sizes_left k sends new
start_bounded batch sizes_left k sends h is_open place inventory play p items gifts rows new most b o e n =
    given_so batch sizes_left k sends is_open gifts (change rows h (progressed inventory play p items)) new o
    (changed_so batch sizes_left k sends 0 h is_open (progressed inventory play p items) (stands_at place) rows (change rows h (progressed inventory play p items)) sends (omega arith) o (start_keeps (has_batch_left sizes_left) k place inventory play p items most) e b refl) n

-- a host that may start is in the batch
pub start_in_batch : (h : ℕ) (place : Option ℕ) (rows : List HostOf) → at_row (stands_at place) rows h ≡ true → IfSome (slice_get rows h) (λ row. row.in_batch ≡ true)
start_in_batch h place rows e = at_found rows h e
  where
    at_found : (rows : List HostOf) (h : ℕ) → at_row (stands_at place) rows h ≡ true → IfSome (slice_get rows h) (λ row. row.in_batch ≡ true)
    at_found [] h e = tt
    at_found (row ∷ rows) zero e = stands_in place row e
    at_found (row ∷ rows) (suc h) e = at_found rows h e

pub start_there : (h : ℕ) (place : Option ℕ) (rows : List HostOf) → at_row (stands_at place) rows h ≡ true → h < length rows
start_there h place rows e = at_found rows h e
  where
    at_found : (rows : List HostOf) (h : ℕ) → at_row (stands_at place) rows h ≡ true → h < length rows
    at_found [] h e = cc
    at_found (row ∷ rows) zero e = omega arith
    at_found (row ∷ rows) (suc h) e = let rest = at_found rows h e in omega (arith, rest)

pub send_bounded : (batch : ℕ) (sizes_left : List ℕ) (play sends h item attempt : ℕ) (is_open may : Bool) (ticket : Ticket) (rows new : List HostOf) → IsBounded is_open batch sizes_left play sends rows → is_open ≡ true
    → (may && at_row (may_send_item item attempt) rows h) ≡ true → new ≡ change rows h (sent ticket) → IsBounded is_open batch sizes_left play (sends + 1) new
send_bounded batch sizes_left play sends h item attempt is_open may ticket rows new b o e n =
    changed_so batch sizes_left play sends 1 h is_open (sent ticket) (may_send_item item attempt) rows new (sends + 1) refl o (send_keeps (has_batch_left sizes_left) play item attempt ticket) (and_right may _ e) b n

pub report_bounded : (batch : ℕ) (sizes_left : List ℕ) (k sends h item attempt : ℕ) (is_open : Bool) (plan : PlanOf) (play : PlayOf) (ticket : Ticket) (outcome : Form) (gifts : List DelegatedFacts) (rows new : List HostOf) → IsBounded is_open batch sizes_left k sends rows
    → is_open ≡ true → at_row (awaits ticket item attempt) rows h ≡ true → new ≡ with_delegated gifts (change rows h (reported plan play outcome)) → IsBounded is_open batch sizes_left k sends new
report_bounded batch sizes_left k sends h item attempt is_open plan play ticket outcome gifts rows new b o e n =
    given_so batch sizes_left k sends is_open gifts (change rows h (reported plan play outcome)) new o
    (changed_so batch sizes_left k sends 0 h is_open (reported plan play outcome) (awaits ticket item attempt) rows (change rows h (reported plan play outcome)) sends (omega arith) o (report_keeps (has_batch_left sizes_left) k item attempt plan play outcome ticket) e b refl) n
