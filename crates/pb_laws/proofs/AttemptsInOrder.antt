-- The attempts at an item go out one behind the report of the other, no more of them than its task allows, and then those at an item behind it.
use Rattle.std.proofs.Common.{◌≡◌, ◌≢◌, ℕ, ◌+◌, ◌≤◌, Bool, true, false, ◌&&◌, ◌||◌, not, List, ◌∷◌, length, refl, sym, ◌∙◌, ap, subst, arith, ◌⊎◌, inl, inr}
use Rattle.std.specs.Prelude.{◌==◌, nat_lt, nat_le, Option, Some, None, option_map, is_some, slice_get, if◌then◌else◌}
use Rattle.std.specs.List.{list_any}
use Rattle.std.proofs.lemmas.Bool.{eq-eqb, lt-ltb, le-leb}
use Rattle.pb_ids.specs.declared.numbers.Ticket.{Ticket}
use Rattle.pb_outcome.specs.declared.item.Item.{Item}
use Rattle.pb_outcome.specs.Items.{next_item}
use Rattle.pb_plan.specs.Plan.{PlanOf}
use Rattle.pb_host.specs.declared.host.Running.{Running}
use Rattle.pb_host.specs.Attempts.{tried_next, attempt_after, attempt_next}
use Rattle.pb_host.specs.Kept.{first_waiting}
use Rattle.pb_host.specs.Host.{first_rows}
use Rattle.pb_host.proofs.InOrder.{next_is}
use Rattle.pb_state.proofs.StepNumbers.{and_right}
use Rattle.pb_state.proofs.Stands.{both}
use Rattle.pb_laws.specs.History.{HostTask, Happening, Starts, Sends}
use Rattle.pb_laws.specs.Laws.{Always, holds_from, so_far, is_same_task, attempts_at, last_sent, follows_in_item, is_awaited, attempts_in_order}
use Rattle.pb_laws.proofs.Telling.{Seen, AreUntried, HasComeBack, Tells, Opening, Starting, Sending, Reporting, Turning, Closing, Stopping, Forking, put, tasks_of, task_on}
use Rattle.pb_laws.proofs.ItemTelling.{AreWithin, GoesOn, untried_within, untried_next, within_next, back_within, goes_on_back, some_attempt}
use Rattle.pb_laws.proofs.Holding.{Keeps, given_holds, given_same, always}
use Rattle.pb_laws.proofs.WithinForks.{idle_next, first_idle}
use Rattle.pb_laws.proofs.JobsInOrder.{put_get, put_there, put_other, same_found, idle_none, same_self, apart, same_or_apart, or_first, or_last, task_self, task_apart, out_number, HasOut, other_out, some_some, none_some, none_out}

-- ---- tests
pick_first : {A : Type 0} (b : Bool) (x y : A) → b ≡ true → (if b then x else y) ≡ x
pick_first true x y e = refl
pick_first false x y e = cc

pick_second : {A : Type 0} (b : Bool) (x y : A) → b ≡ false → (if b then x else y) ≡ y
pick_second true x y e = cc
pick_second false x y e = refl

not_so : (b : Bool) → (b ≡ true → ⊥) → b ≡ false
not_so true none = absurd (none refl)
not_so false none = refl

same_some : (a b : ℕ) → ◌≡◌ {A = Option ℕ} (Some a) (Some b) → a ≡ b
same_some a b e = cc

-- ---- what went out last
-- a task that one host starts, and a job that goes out for it, is nothing to another one
start_other : (past : List Happening) (started task : HostTask) → started.host ≢ task.host → last_sent task (Starts started ∷ past) ≡ last_sent task past
start_other past started task d = pick_second (is_same_task started task) None (last_sent task past) (task_apart started task d)

start_own : (past : List Happening) (task : HostTask) → last_sent task (Starts task ∷ past) ≡ None
start_own past task = pick_first (is_same_task task task) None (last_sent task past) (task_self task)

send_other : (past : List Happening) (sent task : HostTask) (item attempt ticket : ℕ) → sent.host ≢ task.host → last_sent task (Sends sent item attempt ticket ∷ past) ≡ last_sent task past
send_other past sent task item attempt ticket d = pick_second (is_same_task sent task) (Some (item, attempt)) (last_sent task past) (task_apart sent task d)

send_own : (past : List Happening) (task : HostTask) (item attempt ticket : ℕ) → last_sent task (Sends task item attempt ticket ∷ past) ≡ Some (item, attempt)
send_own past task item attempt ticket = pick_first (is_same_task task task) (Some (item, attempt)) (last_sent task past) (task_self task)

-- ---- what the law rests on
record Attempts (plan : PlanOf) (past : List Happening) (v : Seen) : Type 0 where
  within : (h : ℕ) (r : Running) → slice_get v.tasks h ≡ Some (Some r) → AreWithin (attempts_at plan v.play r.place) r.items
  free : (h item : ℕ) (r : Running) → slice_get v.tasks h ≡ Some (Some r) → r.out ≡ None → next_item r.items ≡ Some item → follows_in_item item (attempt_next r.items) (last_sent (task_on v h r.place) past) ≡ true
  sent : (h ticket item : ℕ) (r : Running) → slice_get v.tasks h ≡ Some (Some r) → out_number r ≡ Some ticket → next_item r.items ≡ Some item → last_sent (task_on v h r.place) past ≡ Some (item, attempt_next r.items)
  awaited : (h : ℕ) → is_awaited h past ≡ true → (ticket : ℕ) × HasOut v h ticket
  idle : v.is_open ≡ false → list_any is_some v.tasks ≡ false

abbrev Within : PlanOf → Seen → Type 0
Within plan v = (h : ℕ) (r : Running) → slice_get v.tasks h ≡ Some (Some r) → AreWithin (attempts_at plan v.play r.place) r.items

abbrev Free : List Happening → Seen → Type 0
Free past v = (h item : ℕ) (r : Running) → slice_get v.tasks h ≡ Some (Some r) → r.out ≡ None → next_item r.items ≡ Some item → follows_in_item item (attempt_next r.items) (last_sent (task_on v h r.place) past) ≡ true

abbrev Sent : List Happening → Seen → Type 0
Sent past v =
    (h ticket item : ℕ) (r : Running) → slice_get v.tasks h ≡ Some (Some r) → out_number r ≡ Some ticket → next_item r.items ≡ Some item → last_sent (task_on v h r.place) past ≡ Some (item, attempt_next r.items)

abbrev Awaited : List Happening → Seen → Type 0
Awaited past v = (h : ℕ) → is_awaited h past ≡ true → (ticket : ℕ) × HasOut v h ticket

-- ---- the attempts that are left
within_after : (plan : PlanOf) (v new : Seen) (happens : List Happening) → Tells plan v happens new → Within plan v → Within plan new
within_after plan v new happens (Opening n more tasks inside waiting is) was h r e = absurd (idle_none tasks h r is.idle e)
within_after plan v new happens (Starting true host place items end notified is so) was h r e =
    elim (put_get v.tasks host h None (Some r) e) [ inl w ↦ absurd (none_some r w.1) | inr w ↦ was h r w.1 ]
within_after plan v new happens (Starting false host place items end notified is so) was h r e =
    elim (put_get v.tasks host h (Some (record { place = place; items = items; out = None })) (Some r) e) [
      | inl w ↦
          subst (λ (x : Running). AreWithin (attempts_at plan v.play x.place) x.items) (some_some (record { place = place; items = items; out = None }) r w.1)
          (untried_within (attempts_at plan v.play place) items (some_attempt plan v.play place) so.untried)
      | inr w ↦ was h r w.1
    ]
within_after plan v new happens (Sending host item attempt ticket q is) was h r e =
    elim (put_get v.tasks host h (Some (record q { out = Some ticket })) (Some r) e) [
      | inl w ↦ subst (λ (x : Running). AreWithin (attempts_at plan v.play x.place) x.items) (some_some (record q { out = Some ticket }) r w.1) (was host q is.there)
      | inr w ↦ was h r w.1
    ]
within_after plan v new happens (Reporting true host item ticket q items end notified is so) was h r e =
    elim (put_get v.tasks host h None (Some r) e) [ inl w ↦ absurd (none_some r w.1) | inr w ↦ was h r w.1 ]
within_after plan v new happens (Reporting false host item ticket q items end notified is so) was h r e =
    elim (put_get v.tasks host h (Some (record { place = q.place; items = items; out = None })) (Some r) e) [
      | inl w ↦
          subst (λ (x : Running). AreWithin (attempts_at plan v.play x.place) x.items) (some_some (record { place = q.place; items = items; out = None }) r w.1)
          (subst (AreWithin (attempts_at plan v.play q.place)) (sym so.back)
          (back_within so.judge (attempts_at plan v.play q.place) q.items (some_attempt plan v.play q.place) so.allowed (was host q is.there)))
      | inr w ↦ was h r w.1
    ]
within_after plan v new happens (Turning more happenings opened given is) was h r e = was h r e
within_after plan v new happens (Closing tasks inside waiting is) was h r e = absurd (idle_none tasks h r is.idle e)
within_after plan v new happens Stopping was h r e = was h r e
within_after plan v new happens (Forking n) was h r e = was h r e

-- ---- what goes out next
first_follows : (item : ℕ) (items : List Item) (last : Option (ℕ × ℕ)) → AreUntried items → last ≡ None → follows_in_item item (attempt_next items) last ≡ true
first_follows item items last all e = rw e (eq-eqb (attempt_next items) 1 (ap attempt_after (untried_next items all)))

-- behind an attempt that came back
goes_follows : (item next first tried : ℕ) (items : List Item) (last : Option (ℕ × ℕ)) → GoesOn first tried items → item ≡ first → next ≡ first_waiting items → last ≡ Some (item, attempt_after tried)
    → follows_in_item next (attempt_next items) last ≡ true
goes_follows item next first tried items last (inl goes) here there e =
    rw e
    (or_first ((next == item) && (attempt_next items == attempt_after tried + 1)) (nat_lt item next && (attempt_next items == 1))
    (both (next == item) (attempt_next items == attempt_after tried + 1) (eq-eqb next item (there ∙ goes.0 ∙ sym here)) (eq-eqb (attempt_next items) (attempt_after tried + 1) goes.1)))
goes_follows item next first tried items last (inr goes) here there e =
    rw e
    (or_last ((next == item) && (attempt_next items == attempt_after tried + 1)) (nat_lt item next && (attempt_next items == 1))
    (both (nat_lt item next) (attempt_next items == 1) (lt-ltb item next (let less = goes.0 in omega (arith, here, there, less))) (eq-eqb (attempt_next items) 1 (ap attempt_after goes.1))))

back_follows : (most item next : ℕ) (over : Bool) (old items : List Item) (last : Option (ℕ × ℕ)) → HasComeBack most old over items → AreWithin most old → next_item old ≡ Some item → next_item items ≡ Some next
    → last ≡ Some (item, attempt_next old) → follows_in_item next (attempt_next items) last ≡ true
back_follows most item next over old items last so within e f is =
    let here = next_is old item e in
    let there = next_is items next f in
    goes_follows item next (first_waiting old) (tried_next old) items last
    (subst (GoesOn (first_waiting old) (tried_next old)) (sym so.back) (goes_on_back so.judge most old within (omega (arith, here.0, here.1)))) here.0 there.0 is

-- of another host nothing changes
free_other : (past new : List Happening) (v : Seen) (h item : ℕ) (r : Running) → last_sent (task_on v h r.place) new ≡ last_sent (task_on v h r.place) past
    → follows_in_item item (attempt_next r.items) (last_sent (task_on v h r.place) past) ≡ true → follows_in_item item (attempt_next r.items) (last_sent (task_on v h r.place) new) ≡ true
free_other past new v h item r same e = ap (follows_in_item item (attempt_next r.items)) same ∙ e

not_out : (ticket : Ticket) (q r : Running) → ◌≡◌ {A = Option Running} (Some (record q { out = Some ticket })) (Some r) → r.out ≡ None → ⊥
not_out ticket q r e f =
    let out : ◌≡◌ {A = Option Ticket} (Some ticket) None = ap (λ (x : Running). x.out) (some_some (record q { out = Some ticket }) r e) ∙ f in
    cc

free_after : (plan : PlanOf) (past : List Happening) (v new : Seen) (happens : List Happening) → Tells plan v happens new → Within plan v → Sent past v → Free past v → Free (so_far past happens) new
unfolding out_number
free_after plan past v new happens (Opening n more tasks inside waiting is) within sent was h i r e o x = absurd (idle_none tasks h r is.idle e)
free_after plan past v new happens (Starting true host place items end notified is so) within sent was h i r e o x =
    elim (put_get v.tasks host h None (Some r) e) [
      | inl w ↦ absurd (none_some r w.1)
      | inr w ↦ free_other past (Starts (task_on v host place) ∷ past) v h i r (start_other past (task_on v host place) (task_on v h r.place) (λ same. w.0 (sym same))) (was h i r w.1 o x)
    ]
free_after plan past v new happens (Starting false host place items end notified is so) within sent was h i r e o x =
    elim (put_get v.tasks host h (Some (record { place = place; items = items; out = None })) (Some r) e) [
      | inl w ↦
          subst (λ (k : ℕ). follows_in_item i (attempt_next r.items) (last_sent (task_on v k r.place) (Starts (task_on v host place) ∷ past)) ≡ true) (sym w.0)
          (subst (λ (q : Running). follows_in_item i (attempt_next q.items) (last_sent (task_on v host q.place) (Starts (task_on v host place) ∷ past)) ≡ true)
          (some_some (record { place = place; items = items; out = None }) r w.1)
          (first_follows i items (last_sent (task_on v host place) (Starts (task_on v host place) ∷ past)) so.untried (start_own past (task_on v host place))))
      | inr w ↦ free_other past (Starts (task_on v host place) ∷ past) v h i r (start_other past (task_on v host place) (task_on v h r.place) (λ same. w.0 (sym same))) (was h i r w.1 o x)
    ]
free_after plan past v new happens (Sending host item attempt ticket q is) within sent was h i r e o x =
    elim (put_get v.tasks host h (Some (record q { out = Some ticket })) (Some r) e) [
      | inl w ↦ absurd (not_out ticket q r w.1 o)
      | inr w ↦
          free_other past (Sends (task_on v host q.place) item attempt ticket.0 ∷ past) v h i r
          (send_other past (task_on v host q.place) (task_on v h r.place) item attempt ticket.0 (λ same. w.0 (sym same))) (was h i r w.1 o x)
    ]
free_after plan past v new happens (Reporting true host item ticket q items end notified is so) within sent was h i r e o x =
    elim (put_get v.tasks host h None (Some r) e) [ inl w ↦ absurd (none_some r w.1) | inr w ↦ was h i r w.1 o x ]
free_after plan past v new happens (Reporting false host item ticket q items end notified is so) within sent was h i r e o x =
    elim (put_get v.tasks host h (Some (record { place = q.place; items = items; out = None })) (Some r) e) [
      | inl w ↦
          let same = some_some (record { place = q.place; items = items; out = None }) r w.1 in
          subst (λ (k : ℕ). follows_in_item i (attempt_next r.items) (last_sent (task_on v k r.place) past) ≡ true) (sym w.0)
          (subst (λ (y : Running). follows_in_item i (attempt_next y.items) (last_sent (task_on v host y.place) past) ≡ true) same
          (back_follows (attempts_at plan v.play q.place) item i false q.items items (last_sent (task_on v host q.place) past) so (within host q is.there) is.next
          (ap (λ (y : Running). next_item y.items) same ∙ x) (sent host ticket.0 item q is.there is.out is.next)))
      | inr w ↦ was h i r w.1 o x
    ]
free_after plan past v new happens (Turning more happenings opened given is) within sent was h i r e o x =
    free_other past (so_far past happens) v h i r (given_same (last_sent (task_on v h r.place)) (λ before task how. refl) past happens given) (was h i r e o x)
free_after plan past v new happens (Closing tasks inside waiting is) within sent was h i r e o x = absurd (idle_none tasks h r is.idle e)
free_after plan past v new happens Stopping within sent was h i r e o x = was h i r e o x
free_after plan past v new happens (Forking n) within sent was h i r e o x = was h i r e o x

-- ---- what is out
sent_after : (plan : PlanOf) (past : List Happening) (v new : Seen) (happens : List Happening) → Tells plan v happens new → Sent past v → Sent (so_far past happens) new
unfolding out_number
sent_after plan past v new happens (Opening n more tasks inside waiting is) was h t i r e o x = absurd (idle_none tasks h r is.idle e)
sent_after plan past v new happens (Starting true host place items end notified is so) was h t i r e o x =
    elim (put_get v.tasks host h None (Some r) e) [
      | inl w ↦ absurd (none_some r w.1)
      | inr w ↦ start_other past (task_on v host place) (task_on v h r.place) (λ same. w.0 (sym same)) ∙ was h t i r w.1 o x
    ]
sent_after plan past v new happens (Starting false host place items end notified is so) was h t i r e o x =
    elim (put_get v.tasks host h (Some (record { place = place; items = items; out = None })) (Some r) e) [
      | inl w ↦ absurd (none_out r place t items w.1 o)
      | inr w ↦ start_other past (task_on v host place) (task_on v h r.place) (λ same. w.0 (sym same)) ∙ was h t i r w.1 o x
    ]
sent_after plan past v new happens (Sending host item attempt ticket q is) was h t i r e o x =
    elim (put_get v.tasks host h (Some (record q { out = Some ticket })) (Some r) e) [
      | inl w ↦
          let same = some_some (record q { out = Some ticket }) r w.1 in
          let which : item ≡ i = same_some item i (sym is.next ∙ ap (λ (y : Running). next_item y.items) same ∙ x) in
          let now : attempt ≡ attempt_next r.items = sym is.attempt_is ∙ ap (λ (y : Running). attempt_next y.items) same in
          subst (λ (k : ℕ). last_sent (task_on v k r.place) (Sends (task_on v host q.place) item attempt ticket.0 ∷ past) ≡ Some (i, attempt_next r.items)) (sym w.0)
          (subst (λ (y : Running). last_sent (task_on v host y.place) (Sends (task_on v host q.place) item attempt ticket.0 ∷ past) ≡ Some (i, attempt_next r.items)) same
          (send_own past (task_on v host q.place) item attempt ticket.0 ∙ ap (λ (k : ℕ). Some (k, attempt)) which ∙ ap (λ (a : ℕ). Some (i, a)) now))
      | inr w ↦ send_other past (task_on v host q.place) (task_on v h r.place) item attempt ticket.0 (λ same. w.0 (sym same)) ∙ was h t i r w.1 o x
    ]
sent_after plan past v new happens (Reporting true host item ticket q items end notified is so) was h t i r e o x =
    elim (put_get v.tasks host h None (Some r) e) [ inl w ↦ absurd (none_some r w.1) | inr w ↦ was h t i r w.1 o x ]
sent_after plan past v new happens (Reporting false host item ticket q items end notified is so) was h t i r e o x =
    elim (put_get v.tasks host h (Some (record { place = q.place; items = items; out = None })) (Some r) e) [ inl w ↦ absurd (none_out r q.place t items w.1 o) | inr w ↦ was h t i r w.1 o x ]
sent_after plan past v new happens (Turning more happenings opened given is) was h t i r e o x =
    given_same (last_sent (task_on v h r.place)) (λ before task how. refl) past happens given ∙ was h t i r e o x
sent_after plan past v new happens (Closing tasks inside waiting is) was h t i r e o x = absurd (idle_none tasks h r is.idle e)
sent_after plan past v new happens Stopping was h t i r e o x = was h t i r e o x
sent_after plan past v new happens (Forking n) was h t i r e o x = was h t i r e o x

-- ---- who waits for a report
other_self : (n : ℕ) (b : Bool) → (not (n == n) && b) ≡ false
other_self n b = ap (λ (same : Bool). not same && b) (same_self n)

still_out : (v : Seen) (host h : ℕ) (task : Option Running) → host ≢ h → (ticket : ℕ) × HasOut v h ticket
    → (ticket : ℕ) × ((r : Running) × (slice_get (put v.tasks host task) h ≡ Some (Some r)) × (out_number r ≡ Some ticket))
unfolding HasOut
still_out v host h task d (ticket, (r, there, out)) = (ticket, (r, put_other v.tasks host h task (Some r) (λ same. d (sym same)) there, out))

apart_of : (host h : ℕ) (b : Bool) → (not (host == h) && b) ≡ true → host ≢ h
apart_of host h b e same = let other : (not true && b) ≡ true = subst (λ (s : Bool). (not s && b) ≡ true) (eq-eqb host h same) e in cc

awaited_after : (plan : PlanOf) (past : List Happening) (v new : Seen) (happens : List Happening) → Tells plan v happens new → (v.is_open ≡ false → list_any is_some v.tasks ≡ false) → Awaited past v
    → Awaited (so_far past happens) new
unfolding HasOut out_number
awaited_after plan past v new happens (Opening n more tasks inside waiting is) idle was h e = let out = was h e in absurd (idle_none v.tasks h out.1.0 (idle is.shut) out.1.1)
awaited_after plan past v new happens (Starting true host place items end notified is so) idle was h e =
    let out = was h e in (out.0, other_out v host h out.0 None None is.idle (λ r f. absurd (none_some r f)) out.1)
awaited_after plan past v new happens (Starting false host place items end notified is so) idle was h e =
    let out = was h e in (out.0, other_out v host h out.0 None (Some (record { place = place; items = items; out = None })) is.idle (λ r f. absurd (none_some r f)) out.1)
awaited_after plan past v new happens (Sending host item attempt ticket q is) idle was h e = by_host (same_or_apart host h)
  where
    by_host : (host ≡ h) ⊎ (host ≢ h)
        → (t : ℕ) × ((r : Running) × (slice_get (put v.tasks host (Some (record q { out = Some ticket }))) h ≡ Some (Some r)) × (option_map (λ (u : Ticket). u.0) r.out ≡ Some t))
    by_host (inl same) = (
      ticket.0,
      (
        record q { out = Some ticket },
        subst (λ (k : ℕ). slice_get (put v.tasks host (Some (record q { out = Some ticket }))) k ≡ Some (Some (record q { out = Some ticket }))) same
            (put_there v.tasks host (Some (record q { out = Some ticket })) (Some q) is.there),
        refl,
      ),
    )
    by_host (inr d) =
        still_out v host h (Some (record q { out = Some ticket })) d (was h (subst (λ (b : Bool). (b || is_awaited h past) ≡ true) (apart host h d) e))
awaited_after plan past v new happens (Reporting true host item ticket q items end notified is so) idle was h e =
    let apart_is = apart_of host h (is_awaited h past) e in still_out v host h None apart_is (was h (and_right (not (host == h)) (is_awaited h past) e))
awaited_after plan past v new happens (Reporting false host item ticket q items end notified is so) idle was h e =
    let apart_is = apart_of host h (is_awaited h past) e in
    still_out v host h (Some (record { place = q.place; items = items; out = None })) apart_is (was h (and_right (not (host == h)) (is_awaited h past) e))
awaited_after plan past v new happens (Turning more happenings opened given is) idle was h e = was h (sym (given_same (is_awaited h) (λ before task how. refl) past happens given) ∙ e)
awaited_after plan past v new happens (Closing tasks inside waiting is) idle was h e = let out = was h e in absurd (idle_none v.tasks h out.1.0 is.before out.1.1)
awaited_after plan past v new happens Stopping idle was h e = was h e
awaited_after plan past v new happens (Forking n) idle was h e = was h e

-- ---- the law
-- a host with no job out waits for none
rests : (past : List Happening) (v : Seen) (h : ℕ) (old : Option Running) → Awaited past v → slice_get v.tasks h ≡ Some old → ((r : Running) → old ≡ Some r → r.out ≡ None) → is_awaited h past ≡ false
unfolding HasOut out_number
rests past v h old was there free =
    not_so (is_awaited h past)
    (λ e.
    let out = was h e in
    let runs : old ≡ Some out.1.0 = same_found old (Some out.1.0) (slice_get v.tasks h) there out.1.1 in
    let none : ◌≡◌ {A = Option ℕ} None (Some out.0) = sym (ap (option_map (λ (u : Ticket). u.0)) (free out.1.0 runs)) ∙ out.1.2 in
    (let shown = none in cc))

attempts_hold : (plan : PlanOf) (past : List Happening) (v new : Seen) (happens : List Happening) → Tells plan v happens new → Attempts plan past v → holds_from (attempts_in_order plan) past happens ≡ true
attempts_hold plan past v new happens (Opening n more tasks inside waiting is) attempts = refl
attempts_hold plan past v new happens (Starting true host place items end notified is so) attempts =
    both (not (is_awaited host past)) true (ap not (rests past v host None attempts.awaited is.idle (λ r f. absurd (none_some r f)))) refl
attempts_hold plan past v new happens (Starting false host place items end notified is so) attempts = refl
attempts_hold plan past v new happens (Sending host item attempt ticket r is) attempts =
    both (attempts_in_order plan past (Sends (task_on v host r.place) item attempt ticket.0)) true
    (both (follows_in_item item attempt (last_sent (task_on v host r.place) past) && nat_le attempt (attempts_at plan v.play r.place)) (not (is_awaited host past))
    (both (follows_in_item item attempt (last_sent (task_on v host r.place) past)) (nat_le attempt (attempts_at plan v.play r.place))
    (subst (λ (a : ℕ). follows_in_item item a (last_sent (task_on v host r.place) past) ≡ true) is.attempt_is (attempts.free host item r is.there is.free is.next))
    (le-leb attempt (attempts_at plan v.play r.place)
    (subst (λ (a : ℕ). a ≤ attempts_at plan v.play r.place) is.attempt_is (within_next (attempts_at plan v.play r.place) item r.items (attempts.within host r is.there) is.next))))
    (ap not (rests past v host (Some r) attempts.awaited is.there (λ q f. ap (λ (y : Running). y.out) (sym (some_some r q f)) ∙ is.free)))) refl
attempts_hold plan past v new happens (Reporting true host item ticket r items end notified is so) attempts =
    both (not (not (host == host) && is_awaited host past)) true (ap not (other_self host (is_awaited host past))) refl
attempts_hold plan past v new happens (Reporting false host item ticket r items end notified is so) attempts = refl
attempts_hold plan past v new happens (Turning more happenings opened given is) attempts = given_holds (attempts_in_order plan) (λ before task how. refl) past happens given
attempts_hold plan past v new happens (Closing tasks inside waiting is) attempts = refl
attempts_hold plan past v new happens Stopping attempts = refl
attempts_hold plan past v new happens (Forking n) attempts = refl

keeps_attempts : Keeps attempts_in_order Attempts
keeps_attempts =
    record {
      begins = λ plan n. refl;
      first = λ plan forks pool.
          record {
            within = λ h r e. absurd (idle_none (tasks_of (first_rows 0 (length plan.inventory.hosts))) h r (first_idle 0 (length plan.inventory.hosts)) e);
            free = λ h i r e o x. absurd (idle_none (tasks_of (first_rows 0 (length plan.inventory.hosts))) h r (first_idle 0 (length plan.inventory.hosts)) e);
            sent = λ h t i r e o x. absurd (idle_none (tasks_of (first_rows 0 (length plan.inventory.hosts))) h r (first_idle 0 (length plan.inventory.hosts)) e);
            awaited = λ h e. cc;
            idle = λ shut. first_idle 0 (length plan.inventory.hosts);
          };
      now = λ plan past v new happens tells attempts. attempts_hold plan past v new happens tells attempts;
      next = λ plan past v new happens tells attempts.
          record {
            within = within_after plan v new happens tells attempts.within;
            free = free_after plan past v new happens tells attempts.within attempts.sent attempts.free;
            sent = sent_after plan past v new happens tells attempts.sent;
            awaited = awaited_after plan past v new happens tells attempts.idle attempts.awaited;
            idle = idle_next plan v new happens tells attempts.idle;
          };
    }

pub attempts_are_in_order : Always attempts_in_order
attempts_are_in_order = always attempts_in_order Attempts keeps_attempts
