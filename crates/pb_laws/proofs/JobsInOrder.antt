-- Tickets count up, a job that goes out is of a task that its host runs, and who has a job out by what happened is whose job the machine has out.
use Rattle.std.proofs.Common.{◌≡◌, ◌≢◌, ℕ, zero, suc, ◌+◌, ◌<◌, Bool, true, false, ◌&&◌, ◌||◌, not, List, [], ◌∷◌, length, refl, sym, ◌∙◌, ap, arith, ◌⊎◌, inl, inr}
use Rattle.std.specs.Prelude.{◌==◌, Option, Some, None, option_map, is_some, slice_get, if◌then◌else◌}
use Rattle.std.specs.List.{list_any}
use Rattle.std.specs.Option.{option_map_or}
use Rattle.std.proofs.lemmas.Bool.{eq-eqb, eqb-true}
use Rattle.pb_ids.specs.declared.numbers.Ticket.{Ticket}
use Rattle.pb_outcome.specs.declared.item.Item.{Item}
use Rattle.pb_outcome.specs.Items.{next_item}
use Rattle.pb_plan.specs.Plan.{PlanOf}
use Rattle.pb_host.specs.declared.step_result.TaskEnd.{TaskEnd}
use Rattle.pb_host.specs.declared.host.Running.{Running}
use Rattle.pb_host.specs.Runs.{is_out as has_job_out}
use Rattle.pb_host.specs.Host.{HostOf, first_rows}
use Rattle.pb_state.specs.Run.{state_after_under}
use Rattle.pb_state.proofs.StepNumbers.{and_left, and_right}
use Rattle.pb_state.proofs.Stands.{both}
use Rattle.pb_laws.specs.History.{HostTask, Happening, Starts, Sends, Reports, Ends, history}
use Rattle.pb_laws.specs.Laws.{Always, AtTheEnd, holds_from, so_far, jobs_sent, is_same_task, runs, is_out, jobs_in_order, is_answered, answered_below, all_answered}
use Rattle.pb_laws.proofs.Telling.{Seen, Tells, Opening, Starting, Sending, Reporting, Turning, Closing, Stopping, Forking, put, tasks_of, task_on}
use Rattle.pb_laws.proofs.Holding.{Keeps, given_holds, given_same, always, at_end}
use Rattle.pb_laws.proofs.WithinForks.{idle_next, first_idle}

-- ---- one entry changed
pub put_get : {A : Type 0} (xs : List A) (h k : ℕ) (x y : A) → slice_get (put xs h x) k ≡ Some y → ((k ≡ h) × (x ≡ y)) ⊎ ((k ≢ h) × (slice_get xs k ≡ Some y))
put_get [] h k x y e = cc
put_get (z ∷ zs) zero zero x y e = inl (refl, let same : x ≡ y = cc in same)
put_get (z ∷ zs) zero (suc k) x y e = inr (λ same. omega (arith, same), e)
put_get (z ∷ zs) (suc h) zero x y e = inr (λ same. omega (arith, same), e)
put_get (z ∷ zs) (suc h) (suc k) x y e =
    elim (put_get zs h k x y e) [ inl w ↦ inl (ap suc w.0, w.1) | inr w ↦ inr (λ same. w.0 (let p : k ≡ h = omega (arith, same) in p), w.1) ]

pub put_there : {A : Type 0} (xs : List A) (h : ℕ) (x y : A) → slice_get xs h ≡ Some y → slice_get (put xs h x) h ≡ Some x
put_there [] h x y e = cc
put_there (z ∷ zs) zero x y e = refl
put_there (z ∷ zs) (suc h) x y e = put_there zs h x y e

pub put_other : {A : Type 0} (xs : List A) (h k : ℕ) (x y : A) → k ≢ h → slice_get xs k ≡ Some y → slice_get (put xs h x) k ≡ Some y
put_other [] h k x y d e = e
put_other (z ∷ zs) zero zero x y d e = absurd (d refl)
put_other (z ∷ zs) zero (suc k) x y d e = e
put_other (z ∷ zs) (suc h) zero x y d e = e
put_other (z ∷ zs) (suc h) (suc k) x y d e = put_other zs h k x y (λ same. d (ap suc same)) e

pub same_found : {A : Type 0} (x y : A) (found : Option A) → found ≡ Some x → found ≡ Some y → x ≡ y
same_found x y None e f = cc
same_found x y (Some z) e f = cc

-- where nobody runs no task is found
pub idle_none : (tasks : List (Option Running)) (h : ℕ) (r : Running) → list_any is_some tasks ≡ false → slice_get tasks h ≡ Some (Some r) → ⊥
idle_none [] h r idle e = cc
idle_none (None ∷ tasks) zero r idle e = absurd (let same : None ≡ Some r = (let both_ways : Some None ≡ Some (Some r) = e in cc) in cc)
idle_none (Some q ∷ tasks) zero r idle e = absurd (let shown : true ≡ false = idle in cc)
idle_none (None ∷ tasks) (suc h) r idle e = idle_none tasks h r idle e
idle_none (Some q ∷ tasks) (suc h) r idle e = absurd (let shown : true ≡ false = idle in cc)

-- ---- tests on numbers
pub same_self : (n : ℕ) → (n == n) ≡ true
same_self n = eq-eqb n n refl

pub apart : (m n : ℕ) → m ≢ n → (m == n) ≡ false
apart m n d = by_test (m == n) refl
  where
    by_test : (b : Bool) → (m == n) ≡ b → b ≡ false
    by_test true e = absurd (d (eqb-true m n e))
    by_test false e = refl

pub same_or_apart : (m n : ℕ) → (m ≡ n) ⊎ (m ≢ n)
same_or_apart m n = by_test (m == n) refl
  where
    by_test : (b : Bool) → (m == n) ≡ b → (m ≡ n) ⊎ (m ≢ n)
    by_test true e = inl (eqb-true m n e)
    by_test false e = inr (λ same. let both_ways : true ≡ false = sym (eq-eqb m n same) ∙ e in absurd (let shown = both_ways in cc))

pub or_last : (a b : Bool) → b ≡ true → (a || b) ≡ true
or_last true b e = refl
or_last false b e = e

pub or_first : (a b : Bool) → a ≡ true → (a || b) ≡ true
or_first true b e = refl
or_first false b e = cc

pub task_self : (task : HostTask) → is_same_task task task ≡ true
task_self task = both ((task.play == task.play) && (task.host == task.host)) (task.place == task.place) (both (task.play == task.play) (task.host == task.host) (same_self task.play) (same_self task.host)) (same_self task.place)

apart_and : (a b c : Bool) → b ≡ false → (a && b && c) ≡ false
apart_and true true c e = cc
apart_and true false c e = refl
apart_and false b c e = refl

pub task_apart : (a b : HostTask) → a.host ≢ b.host → is_same_task a b ≡ false
task_apart a b d = apart_and (a.play == b.play) (a.host == b.host) (a.place == b.place) (apart a.host b.host d)

-- ---- whose job is out
under_if : (b : Bool) (x y : Bool) → b ≡ true → (if b then x else y) ≡ x
under_if true x y e = refl
under_if false x y e = cc

under_else : (b : Bool) (x y : Bool) → b ≡ false → (if b then x else y) ≡ y
under_else true x y e = cc
under_else false x y e = refl

-- a ticket is that of one host at most
one_out : (past : List Happening) (ticket h i k j : ℕ) → is_out h i ticket past ≡ true → is_out k j ticket past ≡ true → h ≡ k
one_out [] ticket h i k j e f = cc
one_out (Sends task other attempt under ∷ past) ticket h i k j e f = by_under (under == ticket) (λ p q. one_out past ticket h i k j p q) e f
  where
    by_under : (b : Bool) → (is_out h i ticket past ≡ true → is_out k j ticket past ≡ true → h ≡ k) → (if b then (task.host == h) && (other == i) else is_out h i ticket past) ≡ true → (if b then (task.host == k) && (other == j) else is_out k j ticket past) ≡ true → h ≡ k
    by_under true before p q = sym (eqb-true task.host h (and_left (task.host == h) _ p)) ∙ eqb-true task.host k (and_left (task.host == k) _ q)
    by_under false before p q = before p q
one_out (Reports host item under ∷ past) ticket h i k j e f = one_out past ticket h i k j (and_right (not (under == ticket)) _ e) (and_right (not (under == ticket)) _ f)
one_out (now ∷ past) ticket h i k j e f = one_out past ticket h i k j e f

-- a report of another ticket changes nothing for this one
still_out : (past : List Happening) (h i ticket host item under : ℕ) → under ≢ ticket → is_out h i ticket past ≡ true → is_out h i ticket (Reports host item under ∷ past) ≡ true
still_out past h i ticket host item under d e = both (not (under == ticket)) (is_out h i ticket past) (ap not (apart under ticket d)) e

-- ---- what jobs rest on
unfoldable pub out_number : Running → Option ℕ
out_number r = option_map (λ (t : Ticket). t.0) r.out

-- a job of a host is out under a ticket
unfoldable pub HasOut : Seen → ℕ → ℕ → Type 0
HasOut v h ticket = (r : Running) × (slice_get v.tasks h ≡ Some (Some r)) × (out_number r ≡ Some ticket)

record Jobs (plan : PlanOf) (past : List Happening) (v : Seen) : Type 0 where
  sent : jobs_sent past ≡ v.sends
  run : (h : ℕ) (r : Running) → slice_get v.tasks h ≡ Some (Some r) → runs (task_on v h r.place) past ≡ true
  out : (h : ℕ) (r : Running) (ticket item : ℕ) → slice_get v.tasks h ≡ Some (Some r) → out_number r ≡ Some ticket → next_item r.items ≡ Some item → is_out h item ticket past ≡ true
  below : (h : ℕ) (r : Running) (ticket : ℕ) → slice_get v.tasks h ≡ Some (Some r) → out_number r ≡ Some ticket → ticket < v.sends
  answered : (ticket : ℕ) → ticket < v.sends → (is_answered ticket past ≡ true) ⊎ ((h : ℕ) × HasOut v h ticket)
  idle : v.is_open ≡ false → list_any is_some v.tasks ≡ false

-- ---- the number of jobs
sent_next : (plan : PlanOf) (past : List Happening) (v new : Seen) (happens : List Happening) → Tells plan v happens new → jobs_sent past ≡ v.sends → jobs_sent (so_far past happens) ≡ new.sends
sent_next plan past v new happens (Opening n more tasks inside waiting is) e = e
sent_next plan past v new happens (Starting true host place items end notified is so) e = e
sent_next plan past v new happens (Starting false host place items end notified is so) e = e
sent_next plan past v new happens (Sending host item attempt ticket r is) e = ap (λ (n : ℕ). n + 1) e
sent_next plan past v new happens (Reporting true host item ticket r items end notified is so) e = e
sent_next plan past v new happens (Reporting false host item ticket r items end notified is so) e = e
sent_next plan past v new happens (Turning more happenings opened given is) e = given_same jobs_sent (λ before task how. refl) past happens given ∙ e
sent_next plan past v new happens (Closing tasks inside waiting is) e = e
sent_next plan past v new happens Stopping e = e
sent_next plan past v new happens (Forking n) e = e

-- ---- what hosts run
pub some_some : (a b : Running) → ◌≡◌ {A = Option Running} (Some a) (Some b) → a ≡ b
some_some a b e = cc

pub none_some : (r : Running) → ◌≡◌ {A = Option Running} None (Some r) → ⊥
none_some r e = cc

-- a task that one host starts or ends is nothing to another one
run_started : (past : List Happening) (started task : HostTask) → runs task past ≡ true → runs task (Starts started ∷ past) ≡ true
run_started past started task e = or_last (is_same_task started task) (runs task past) e

run_ended : (past : List Happening) (ended task : HostTask) (end : TaskEnd) (notified : List ℕ) → ended.host ≢ task.host → runs task past ≡ true → runs task (Ends ended end notified ∷ past) ≡ true
run_ended past ended task end notified d e = both (not (is_same_task ended task)) (runs task past) (ap not (task_apart ended task d)) e

pub run_next : (plan : PlanOf) (past : List Happening) (v new : Seen) (happens : List Happening) → Tells plan v happens new
    → ((h : ℕ) (r : Running) → slice_get v.tasks h ≡ Some (Some r) → runs (task_on v h r.place) past ≡ true)
    → (h : ℕ) (r : Running) → slice_get new.tasks h ≡ Some (Some r) → runs (task_on new h r.place) (so_far past happens) ≡ true
run_next plan past v new happens (Opening n more tasks inside waiting is) was h r e = absurd (idle_none tasks h r is.idle e)
run_next plan past v new happens (Starting true host place items end notified is so) was h r e =
    elim (put_get v.tasks host h None (Some r) e) [
      | inl w ↦ absurd (none_some r w.1)
      | inr w ↦ run_ended (Starts (task_on v host place) ∷ past) (task_on v host place) (task_on v h r.place) end notified (λ same. w.0 (sym same)) (run_started past (task_on v host place) (task_on v h r.place) (was h r w.1))
    ]
run_next plan past v new happens (Starting false host place items end notified is so) was h r e =
    elim (put_get v.tasks host h (Some (record { place = place; items = items; out = None })) (Some r) e) [
      | inl w ↦
          or_first (is_same_task (task_on v host place) (task_on v h r.place)) (runs (task_on v h r.place) past)
          (ap (λ (k : ℕ). is_same_task (task_on v host place) (task_on v k r.place)) w.0
          ∙ ap (λ (q : Running). is_same_task (task_on v host place) (task_on v host q.place)) (sym (some_some (record { place = place; items = items; out = None }) r w.1))
          ∙ task_self (task_on v host place))
      | inr w ↦ run_started past (task_on v host place) (task_on v h r.place) (was h r w.1)
    ]
run_next plan past v new happens (Sending host item attempt ticket q is) was h r e =
    elim (put_get v.tasks host h (Some (record q { out = Some ticket })) (Some r) e) [
      | inl w ↦
          ap (λ (k : ℕ). runs (task_on v k r.place) past) w.0 ∙ ap (λ (x : Running). runs (task_on v host x.place) past) (sym (some_some (record q { out = Some ticket }) r w.1)) ∙ was host q is.there
      | inr w ↦ was h r w.1
    ]
run_next plan past v new happens (Reporting true host item ticket q items end notified is so) was h r e =
    elim (put_get v.tasks host h None (Some r) e) [
      | inl w ↦ absurd (none_some r w.1)
      | inr w ↦ run_ended (Reports host item ticket.0 ∷ past) (task_on v host q.place) (task_on v h r.place) end notified (λ same. w.0 (sym same)) (was h r w.1)
    ]
run_next plan past v new happens (Reporting false host item ticket q items end notified is so) was h r e =
    elim (put_get v.tasks host h (Some (record { place = q.place; items = items; out = None })) (Some r) e) [
      | inl w ↦
          ap (λ (k : ℕ). runs (task_on v k r.place) past) w.0 ∙ ap (λ (x : Running). runs (task_on v host x.place) past) (sym (some_some (record { place = q.place; items = items; out = None }) r w.1)) ∙ was host q is.there
      | inr w ↦ was h r w.1
    ]
run_next plan past v new happens (Turning more happenings opened given is) was h r e = given_same (runs (task_on v h r.place)) (λ before task how. refl) past happens given ∙ was h r e
run_next plan past v new happens (Closing tasks inside waiting is) was h r e = absurd (idle_none tasks h r is.idle e)
run_next plan past v new happens Stopping was h r e = was h r e
run_next plan past v new happens (Forking n) was h r e = was h r e

-- ---- the jobs that are out
pub none_out : (r : Running) (place ticket : ℕ) (items : List Item) → ◌≡◌ {A = Option Running} (Some (record { place = place; items = items; out = None })) (Some r) → out_number r ≡ Some ticket → ⊥
unfolding out_number
none_out r place ticket items e out =
    let same = some_some (record { place = place; items = items; out = None }) r e in
    let none : ◌≡◌ {A = Option ℕ} None (Some ticket) = ap (λ (q : Running). option_map (λ (t : Ticket). t.0) q.out) same ∙ out in
    cc

out_next : (plan : PlanOf) (past : List Happening) (v new : Seen) (happens : List Happening) → Tells plan v happens new
    → ((h : ℕ) (r : Running) (ticket item : ℕ) → slice_get v.tasks h ≡ Some (Some r) → out_number r ≡ Some ticket → next_item r.items ≡ Some item → is_out h item ticket past ≡ true)
    → ((h : ℕ) (r : Running) (ticket : ℕ) → slice_get v.tasks h ≡ Some (Some r) → out_number r ≡ Some ticket → ticket < v.sends)
    → (h : ℕ) (r : Running) (ticket item : ℕ) → slice_get new.tasks h ≡ Some (Some r) → out_number r ≡ Some ticket → next_item r.items ≡ Some item → is_out h item ticket (so_far past happens) ≡ true
unfolding out_number
out_next plan past v new happens (Opening n more tasks inside waiting is) was below h r t i e o x = absurd (idle_none tasks h r is.idle e)
out_next plan past v new happens (Starting true host place items end notified is so) was below h r t i e o x =
    elim (put_get v.tasks host h None (Some r) e) [ inl w ↦ absurd (none_some r w.1) | inr w ↦ was h r t i w.1 o x ]
out_next plan past v new happens (Starting false host place items end notified is so) was below h r t i e o x =
    elim (put_get v.tasks host h (Some (record { place = place; items = items; out = None })) (Some r) e) [ inl w ↦ absurd (none_out r place t items w.1 o) | inr w ↦ was h r t i w.1 o x ]
out_next plan past v new happens (Sending host item attempt ticket q is) was below h r t i e o x =
    elim (put_get v.tasks host h (Some (record q { out = Some ticket })) (Some r) e) [
      | inl w ↦ sent_now w.0 (some_some (record q { out = Some ticket }) r w.1)
      | inr w ↦
          under_else (ticket.0 == t) ((host == h) && (item == i)) (is_out h i t past)
          (apart ticket.0 t (λ same. let least = below h r t w.1 o in let number = is.number in omega (arith, same, least, number))) ∙ was h r t i w.1 o x
    ]
  where
    sent_now : h ≡ host → record q { out = Some ticket } ≡ r → (if ticket.0 == t then (host == h) && (item == i) else is_out h i t past) ≡ true
    sent_now here same =
        let number : Some ticket.0 ≡ Some t = ap (λ (y : Running). option_map (λ (u : Ticket). u.0) y.out) same ∙ o in
        let under : ticket.0 ≡ t = (let shown = number in cc) in
        let next : Some item ≡ Some i = sym is.next ∙ ap (λ (y : Running). next_item y.items) same ∙ x in
        let which : item ≡ i = (let shown = next in cc) in
        under_if (ticket.0 == t) ((host == h) && (item == i)) (is_out h i t past) (eq-eqb ticket.0 t under) ∙ both (host == h) (item == i) (eq-eqb host h (sym here)) (eq-eqb item i which)
out_next plan past v new happens (Reporting true host item ticket q items end notified is so) was below h r t i e o x =
    elim (put_get v.tasks host h None (Some r) e) [
      | inl w ↦ absurd (none_some r w.1)
      | inr w ↦ still_out past h i t host item ticket.0
          (λ same. w.0 (one_out past t h i host item (was h r t i w.1 o x) (was host q t item is.there (is.out ∙ ap Some same) is.next))) (was h r t i w.1 o x)
    ]
out_next plan past v new happens (Reporting false host item ticket q items end notified is so) was below h r t i e o x =
    elim (put_get v.tasks host h (Some (record { place = q.place; items = items; out = None })) (Some r) e) [
      | inl w ↦ absurd (none_out r q.place t items w.1 o)
      | inr w ↦ still_out past h i t host item ticket.0
          (λ same. w.0 (one_out past t h i host item (was h r t i w.1 o x) (was host q t item is.there (is.out ∙ ap Some same) is.next))) (was h r t i w.1 o x)
    ]
out_next plan past v new happens (Turning more happenings opened given is) was below h r t i e o x = given_same (is_out h i t) (λ before task how. refl) past happens given ∙ was h r t i e o x
out_next plan past v new happens (Closing tasks inside waiting is) was below h r t i e o x = absurd (idle_none tasks h r is.idle e)
out_next plan past v new happens Stopping was below h r t i e o x = was h r t i e o x
out_next plan past v new happens (Forking n) was below h r t i e o x = was h r t i e o x

below_next : (plan : PlanOf) (v new : Seen) (happens : List Happening) → Tells plan v happens new
    → ((h : ℕ) (r : Running) (ticket : ℕ) → slice_get v.tasks h ≡ Some (Some r) → out_number r ≡ Some ticket → ticket < v.sends)
    → (h : ℕ) (r : Running) (ticket : ℕ) → slice_get new.tasks h ≡ Some (Some r) → out_number r ≡ Some ticket → ticket < new.sends
unfolding out_number
below_next plan v new happens (Opening n more tasks inside waiting is) was h r t e o = absurd (idle_none tasks h r is.idle e)
below_next plan v new happens (Starting true host place items end notified is so) was h r t e o =
    elim (put_get v.tasks host h None (Some r) e) [ inl w ↦ absurd (none_some r w.1) | inr w ↦ was h r t w.1 o ]
below_next plan v new happens (Starting false host place items end notified is so) was h r t e o =
    elim (put_get v.tasks host h (Some (record { place = place; items = items; out = None })) (Some r) e) [ inl w ↦ absurd (none_out r place t items w.1 o) | inr w ↦ was h r t w.1 o ]
below_next plan v new happens (Sending host item attempt ticket q is) was h r t e o =
    elim (put_get v.tasks host h (Some (record q { out = Some ticket })) (Some r) e) [
      | inl w ↦
          let number : Some ticket.0 ≡ Some t = ap (λ (y : Running). option_map (λ (u : Ticket). u.0) y.out) (some_some (record q { out = Some ticket }) r w.1) ∙ o in
          let under : ticket.0 ≡ t = (let shown = number in cc) in
          let sends = is.number in
          omega (arith, under, sends)
      | inr w ↦ let least = was h r t w.1 o in omega (arith, least)
    ]
below_next plan v new happens (Reporting true host item ticket q items end notified is so) was h r t e o =
    elim (put_get v.tasks host h None (Some r) e) [ inl w ↦ absurd (none_some r w.1) | inr w ↦ was h r t w.1 o ]
below_next plan v new happens (Reporting false host item ticket q items end notified is so) was h r t e o =
    elim (put_get v.tasks host h (Some (record { place = q.place; items = items; out = None })) (Some r) e) [ inl w ↦ absurd (none_out r q.place t items w.1 o) | inr w ↦ was h r t w.1 o ]
below_next plan v new happens (Turning more happenings opened given is) was h r t e o = was h r t e o
below_next plan v new happens (Closing tasks inside waiting is) was h r t e o = absurd (idle_none tasks h r is.idle e)
below_next plan v new happens Stopping was h r t e o = was h r t e o
below_next plan v new happens (Forking n) was h r t e o = was h r t e o

-- ---- the jobs that are answered
-- a host whose entry changes had no job out, so that one that is out stays so
pub other_out : (v : Seen) (host h t : ℕ) (old task : Option Running) → slice_get v.tasks host ≡ Some old → ((r : Running) → old ≡ Some r → out_number r ≡ Some t → ⊥) → HasOut v h t
    → (r : Running) × (slice_get (put v.tasks host task) h ≡ Some (Some r)) × (out_number r ≡ Some t)
unfolding HasOut
other_out v host h t old task there none (r, here, out) =
    (r, put_other v.tasks host h task (Some r) (λ same. none r (same_found old (Some r) (slice_get v.tasks host) there (ap (slice_get v.tasks) (sym same) ∙ here)) out) here, out)

answered_next : (plan : PlanOf) (past : List Happening) (v new : Seen) (happens : List Happening) → Tells plan v happens new → (v.is_open ≡ false → list_any is_some v.tasks ≡ false)
    → ((ticket : ℕ) → ticket < v.sends → (is_answered ticket past ≡ true) ⊎ ((h : ℕ) × HasOut v h ticket))
    → (ticket : ℕ) → ticket < new.sends → (is_answered ticket (so_far past happens) ≡ true) ⊎ ((h : ℕ) × HasOut new h ticket)
unfolding HasOut out_number
answered_next plan past v new happens (Opening n more tasks inside waiting is) idle was t l =
    elim (was t l) [ inl a ↦ inl a | inr w ↦ absurd (idle_none v.tasks w.0 w.1.0 (idle is.shut) w.1.1) ]
answered_next plan past v new happens (Starting true host place items end notified is so) idle was t l =
    elim (was t l) [ inl a ↦ inl a | inr w ↦ inr (w.0, other_out v host w.0 t None None is.idle (λ r e. absurd (none_some r e)) w.1) ]
answered_next plan past v new happens (Starting false host place items end notified is so) idle was t l =
    elim (was t l) [ inl a ↦ inl a | inr w ↦ inr (w.0, other_out v host w.0 t None (Some (record { place = place; items = items; out = None })) is.idle (λ r e. absurd (none_some r e)) w.1) ]
answered_next plan past v new happens (Sending host item attempt ticket q is) idle was t l = by_ticket (same_or_apart t v.sends)
  where
    free : (r : Running) → Some q ≡ Some r → option_map (λ (u : Ticket). u.0) r.out ≡ Some t → ⊥
    free r e out =
        let none : ◌≡◌ {A = Option ℕ} None (Some t) = sym (ap (option_map (λ (u : Ticket). u.0)) is.free) ∙ ap (λ (y : Running). option_map (λ (u : Ticket). u.0) y.out) (some_some q r e) ∙ out in
        cc

    by_ticket : (t ≡ v.sends) ⊎ (t ≢ v.sends)
        → (is_answered t past ≡ true) ⊎ ((h : ℕ) × ((r : Running) × (slice_get (put v.tasks host (Some (record q { out = Some ticket }))) h ≡ Some (Some r)) × (option_map (λ (u : Ticket). u.0) r.out ≡ Some t)))
    by_ticket (inl same) = inr (host, (record q { out = Some ticket }, put_there v.tasks host (Some (record q { out = Some ticket })) (Some q) is.there, ap Some (is.number ∙ sym same)))
    by_ticket (inr other) =
        elim (was t (omega (arith, l, other))) [ inl a ↦ inl a | inr w ↦ inr (w.0, other_out v host w.0 t (Some q) (Some (record q { out = Some ticket })) is.there free w.1) ]
answered_next plan past v new happens (Reporting true host item ticket q items end notified is so) idle was t l = by_ticket (same_or_apart ticket.0 t)
  where
    by_ticket : (ticket.0 ≡ t) ⊎ (ticket.0 ≢ t)
        → (((ticket.0 == t) || is_answered t past) ≡ true) ⊎ ((h : ℕ) × ((r : Running) × (slice_get (put v.tasks host None) h ≡ Some (Some r)) × (option_map (λ (u : Ticket). u.0) r.out ≡ Some t)))
    by_ticket (inl same) = inl (or_first (ticket.0 == t) (is_answered t past) (eq-eqb ticket.0 t same))
    by_ticket (inr other) =
        elim (was t l) [
          | inl a ↦ inl (or_last (ticket.0 == t) (is_answered t past) a)
          | inr w ↦
              inr (
                w.0,
                other_out v host w.0 t (Some q) None is.there
                    (λ r e out. other (let number : Some ticket.0 ≡ Some t = sym is.out ∙ ap (λ (y : Running). option_map (λ (u : Ticket). u.0) y.out) (some_some q r e) ∙ out in (let same : ticket.0 ≡ t = (let shown = number in cc) in same))) w.1,
              )
        ]
answered_next plan past v new happens (Reporting false host item ticket q items end notified is so) idle was t l = by_ticket (same_or_apart ticket.0 t)
  where
    by_ticket : (ticket.0 ≡ t) ⊎ (ticket.0 ≢ t)
        → (((ticket.0 == t) || is_answered t past) ≡ true)
        ⊎ ((h : ℕ) × ((r : Running) × (slice_get (put v.tasks host (Some (record { place = q.place; items = items; out = None }))) h ≡ Some (Some r)) × (option_map (λ (u : Ticket). u.0) r.out ≡ Some t)))
    by_ticket (inl same) = inl (or_first (ticket.0 == t) (is_answered t past) (eq-eqb ticket.0 t same))
    by_ticket (inr other) =
        elim (was t l) [
          | inl a ↦ inl (or_last (ticket.0 == t) (is_answered t past) a)
          | inr w ↦
              inr (
                w.0,
                other_out v host w.0 t (Some q) (Some (record { place = q.place; items = items; out = None })) is.there
                    (λ r e out. other (let number : Some ticket.0 ≡ Some t = sym is.out ∙ ap (λ (y : Running). option_map (λ (u : Ticket). u.0) y.out) (some_some q r e) ∙ out in (let same : ticket.0 ≡ t = (let shown = number in cc) in same))) w.1,
              )
        ]
answered_next plan past v new happens (Turning more happenings opened given is) idle was t l =
    elim (was t l) [ inl a ↦ inl (given_same (is_answered t) (λ before task how. refl) past happens given ∙ a) | inr w ↦ inr w ]
answered_next plan past v new happens (Closing tasks inside waiting is) idle was t l =
    elim (was t l) [ inl a ↦ inl a | inr w ↦ absurd (idle_none v.tasks w.0 w.1.0 is.before w.1.1) ]
answered_next plan past v new happens Stopping idle was t l = was t l
answered_next plan past v new happens (Forking n) idle was t l = was t l

-- ---- the law
jobs_hold : (plan : PlanOf) (past : List Happening) (v new : Seen) (happens : List Happening) → Tells plan v happens new → Jobs plan past v → holds_from (jobs_in_order plan) past happens ≡ true
unfolding out_number
jobs_hold plan past v new happens (Opening n more tasks inside waiting is) jobs = refl
jobs_hold plan past v new happens (Starting true host place items end notified is so) jobs = refl
jobs_hold plan past v new happens (Starting false host place items end notified is so) jobs = refl
jobs_hold plan past v new happens (Sending host item attempt ticket r is) jobs =
    both (jobs_in_order plan past (Sends (task_on v host r.place) item attempt ticket.0)) true
    (both (ticket.0 == jobs_sent past) (runs (task_on v host r.place) past) (eq-eqb ticket.0 (jobs_sent past) (is.number ∙ sym jobs.sent)) (jobs.run host r is.there)) refl
jobs_hold plan past v new happens (Reporting true host item ticket r items end notified is so) jobs = both (is_out host item ticket.0 past) true (jobs.out host r ticket.0 item is.there is.out is.next) refl
jobs_hold plan past v new happens (Reporting false host item ticket r items end notified is so) jobs = both (is_out host item ticket.0 past) true (jobs.out host r ticket.0 item is.there is.out is.next) refl
jobs_hold plan past v new happens (Turning more happenings opened given is) jobs = given_holds (jobs_in_order plan) (λ before task how. refl) past happens given
jobs_hold plan past v new happens (Closing tasks inside waiting is) jobs = refl
jobs_hold plan past v new happens Stopping jobs = refl
jobs_hold plan past v new happens (Forking n) jobs = refl

keeps_jobs : Keeps jobs_in_order Jobs
keeps_jobs =
    record {
      begins = λ plan n. refl;
      first = λ plan forks pool.
          record {
            sent = refl;
            run = λ h r e. absurd (idle_none (tasks_of (first_rows 0 (length plan.inventory.hosts))) h r (first_idle 0 (length plan.inventory.hosts)) e);
            out = λ h r t i e o x. absurd (idle_none (tasks_of (first_rows 0 (length plan.inventory.hosts))) h r (first_idle 0 (length plan.inventory.hosts)) e);
            below = λ h r t e o. absurd (idle_none (tasks_of (first_rows 0 (length plan.inventory.hosts))) h r (first_idle 0 (length plan.inventory.hosts)) e);
            answered = λ t l. absurd (omega (arith, l));
            idle = λ shut. first_idle 0 (length plan.inventory.hosts);
          };
      now = λ plan past v new happens tells jobs. jobs_hold plan past v new happens tells jobs;
      next = λ plan past v new happens tells jobs.
          record {
            sent = sent_next plan past v new happens tells jobs.sent;
            run = run_next plan past v new happens tells jobs.run;
            out = out_next plan past v new happens tells jobs.out jobs.below;
            below = below_next plan v new happens tells jobs.below;
            answered = answered_next plan past v new happens tells jobs.idle jobs.answered;
            idle = idle_next plan v new happens tells jobs.idle;
          };
    }

pub jobs_are_in_order : Always jobs_in_order
jobs_are_in_order = always jobs_in_order Jobs keeps_jobs

-- ---- at the end none is out
rows_out : (rows : List HostOf) (h t : ℕ) (r : Running) → list_any has_job_out rows ≡ false → slice_get (tasks_of rows) h ≡ Some (Some r) → out_number r ≡ Some t → ⊥
unfolding out_number
rows_out [] h t r none e o = cc
rows_out (row ∷ rows) zero t r none e o = by_out r.out refl o
  where
    by_out : (out : Option Ticket) → r.out ≡ out → option_map (λ (u : Ticket). u.0) out ≡ Some t → ⊥
    by_out None is f = cc
    by_out (Some ticket) is f =
        let runs : row.running ≡ Some r = (let shown = e in cc) in
        let yes : has_job_out row ≡ true = ap (λ (running : Option Running). option_map_or (λ (x : Running). is_some x.out) running false) runs ∙ ap is_some is in
        let both_ways : true ≡ false = sym (or_first (has_job_out row) (list_any has_job_out rows) yes) ∙ none in
        cc
rows_out (row ∷ rows) (suc h) t r none e o = rows_out rows h t r (or_second (has_job_out row) (list_any has_job_out rows) none) e o
  where
    or_second : (a b : Bool) → (a || b) ≡ false → b ≡ false
    or_second true b f = cc
    or_second false b f = f

all_below : (past : List Happening) (n : ℕ) → ((ticket : ℕ) → ticket < n → is_answered ticket past ≡ true) → answered_below n past ≡ true
all_below past zero each = refl
all_below past (suc n) each = both (is_answered n past) (answered_below n past) (each n (omega arith)) (all_below past n (λ t l. each t (omega (arith, l))))

pub all_are_answered : AtTheEnd all_answered
unfolding HasOut
all_are_answered plan forks pool trail l finished =
    let jobs = at_end jobs_in_order Jobs keeps_jobs plan forks pool trail l in
    all_below (so_far [] (history plan forks pool trail)) (jobs_sent (so_far [] (history plan forks pool trail)))
    (λ t below.
    elim (jobs.answered t (let sends = jobs.sent in omega (arith, below, sends))) [
      | inl a ↦ a
      | inr w ↦ absurd (rows_out (state_after_under plan forks pool trail).rows w.0 t w.1.0 finished.none_out w.1.1 w.1.2)
    ])
