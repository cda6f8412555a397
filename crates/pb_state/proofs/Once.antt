-- No run does anything twice: what a host has yet to start or send in a play lies behind what it started and sent.
use Rattle.std.proofs.Common.{◌≡◌, ◌≢◌, ℕ, ◌+◌, ◌*◌, ◌≤◌, true, false, ◌&&◌, not, List, [], ◌∷◌, refl, sym, ◌∙◌, ap, arith, subst, inl, inr}
use Rattle.std.specs.Prelude.{Option, Some, None, option_map, slice_get, nat_eq}
use Rattle.std.specs.Option.{option_map_or}
use Rattle.pb_ids.specs.declared.numbers.HostNo.{HostNo}
use Rattle.pb_ids.specs.declared.numbers.Ticket.{Ticket}
use Rattle.pb_task_vars.specs.Results.{items_at}
use Rattle.pb_task_vars.proofs.FewItems.{few_items}
use Rattle.pb_state.specs.declared.event.Event.{Event}
use Rattle.pb_state.specs.declared.event.Event.TheVariants.{Start, Send}
use Rattle.pb_host.specs.declared.host.Running.{Running}
use Rattle.pb_plan.specs.Plan.{PlayOf, PlanOf}
use Rattle.pb_host.specs.Host.{HostOf, next_place, progressed, sent}
use Rattle.pb_state.specs.State.{State}
use Rattle.pb_host.specs.Runs.{is_running, sends_running, may_send_item}
use Rattle.pb_hosts.specs.Hosts.{change, at_row}
use Rattle.pb_hosts.specs.Giving.{gifts_at}
use Rattle.pb_state.specs.Machine.{possible, after, open_play, same_place, may_start_in, may_send_in, started_in, next_at, facts_at, plan_seen, start_at, sent_in, first_state}
use Rattle.pb_state.specs.Run.{legal_from, IsRun}
use Rattle.pb_state.proofs.Stands.{stands_at, start_stands}
use Rattle.pb_state.proofs.Walked.{stands_in}
use Rattle.pb_state.specs.Once.{StartOf, SendOf, running_place, place_run_by, starts_from, sends_from, IsNotIn, NoTwice, IsOnce, NothingTwice}
use Rattle.pb_state.proofs.StepNumbers.{and_left, and_right, RunsFrom, RowFrom, FoundFrom, progressed_from, stands, start_number, send_number, sent_from, change_raises, found_test, begun_at, progressed_inside, given_from, given_begun}
use Rattle.pb_state.proofs.Moves.{IsSound, IsPast, past_kept, sound_kept, is_opened, open_of, moves}

-- ---- starts
none_same : (a : Option ℕ) → same_place a None ≡ false
none_same (Some p) = refl
none_same None = refl

none_stands : (found : Option HostOf) → option_map_or (stands_at None) found false ≡ true → ⊥
none_stands None e = cc
none_stands (Some row) e = let same = and_right (not (is_running row)) _ e in let no = none_same (next_place row) in cc

-- a start is at a place
start_place_in : (s : State) (k : ℕ) (play : PlayOf) (place : Option ℕ) → at_row (stands_at place) s.rows k ≡ true → (p : ℕ) × (place ≡ Some p)
start_place_in s k play (Some p) e = (p, refl)
start_place_in s k play None e = absurd (none_stands (slice_get s.rows k) e)

pub start_place : (plan : PlanOf) (s : State) (k : ℕ) (found : Option PlayOf) → option_map_or (may_start_in s k) found false ≡ true → (p : ℕ) × (next_at s k ≡ Some p)
start_place plan s k None e = cc
start_place plan s k (Some play) e = start_place_in s k play (next_at s k) (start_stands s k play e)

-- after a start the host is past it
start_at_raises : (plan : PlanOf) (s : State) (k : ℕ) (play : PlayOf) (place : Option ℕ) (p : ℕ) → IsSound s → open_play plan s ≡ Some play → place ≡ Some p → at_row (stands_at place) s.rows k ≡ true → IsPast (option_map_or (start_at plan s k play) place s) k s.play (1010002 * p + 1)
start_at_raises plan s k play None p w o f e = cc
start_at_raises plan s k play (Some q) p w o f e =
    let same : q ≡ p = cc in
    let opened = is_opened plan s s.is_open play refl o in
    inr (inl (
      refl,
      opened,
      given_from (1010002 * p + 1) k (gifts_at plan.inventory play q k (items_at (plan_seen plan s) play k (facts_at s k) q)) (change s.rows k (progressed plan.inventory play q (items_at (plan_seen plan s) play k (facts_at s k) q)))
          (change_raises 0 (1010002 * p + 1) (progressed plan.inventory play q (items_at (plan_seen plan s) play k (facts_at s k) q)) s.rows k
          (λ row here u. let at = found_test (stands_at (Some q)) row (slice_get s.rows k) here e in
          progressed_from (1010002 * p + 1) q plan.inventory play (items_at (plan_seen plan s) play k (facts_at s k) q) row (stands q row at) (omega (arith, same)) (few_items (plan_seen plan s) play k (facts_at s k) q) (stands_in (Some q) row at))
          (w opened k)),
      given_begun k (gifts_at plan.inventory play q k (items_at (plan_seen plan s) play k (facts_at s k) q)) (change s.rows k (progressed plan.inventory play q (items_at (plan_seen plan s) play k (facts_at s k) q)))
          (begun_at 0 (progressed plan.inventory play q (items_at (plan_seen plan s) play k (facts_at s k) q)) s.rows k
          (λ row here u. let at = found_test (stands_at (Some q)) row (slice_get s.rows k) here e in
          progressed_inside plan.inventory play q (items_at (plan_seen plan s) play k (facts_at s k) q) row ∙ stands_in (Some q) row at)
          (w opened k)),
    ))

pub start_raises : (plan : PlanOf) (s : State) (k p : ℕ) (found : Option PlayOf) → IsSound s → open_play plan s ≡ found → next_at s k ≡ Some p → option_map_or (may_start_in s k) found false ≡ true → IsPast (option_map_or (started_in plan s k) found s) k s.play (1010002 * p + 1)
start_raises plan s k p None w o f e = cc
start_raises plan s k p (Some play) w o f e = start_at_raises plan s k play (next_at s k) p w o f (start_stands s k play e)

-- a host that is past a start doesn't start there
found_start : (n p : ℕ) (found : Option HostOf) → option_map_or (stands_at (Some p)) found false ≡ true → FoundFrom n found → n ≤ 1010002 * p
found_start n p None e w = cc
found_start n p (Some row) e w = start_number n p row e w

pub start_least : (s : State) (k n p : ℕ) (found : Option PlayOf) → next_at s k ≡ Some p → option_map_or (may_start_in s k) found false ≡ true → FoundFrom n (slice_get s.rows k) → n ≤ 1010002 * p
start_least s k n p None f e w = cc
start_least s k n p (Some play) f e w =
    found_start n p (slice_get s.rows k) (subst (λ (place : Option ℕ). at_row (stands_at place) s.rows k ≡ true) f (start_stands s k play e)) w

start_again : (plan : PlanOf) (s : State) (h play p : ℕ) (k : HostNo) → h ≡ k.0 → play ≡ s.play → next_at s k.0 ≡ Some p → possible plan s (Start k) ≡ true → IsPast s h play (1010002 * p + 1) → ⊥
start_again plan s h play p k same now here e (inl l) = omega (arith, l, now)
start_again plan s h play p k same now here e (inr (inr w)) = absurd (let opened = open_of plan s (may_start_in s k.0) (open_play plan s) refl e in let shut = w.1 in cc)
start_again plan s h play p k same now here e (inr (inl w)) =
    let least = start_least s k.0 (1010002 * p + 1) p (open_play plan s) here e (subst (λ (j : ℕ). FoundFrom (1010002 * p + 1) (slice_get s.rows j)) same w.2) in
    omega (arith, least)

other_start : (plan : PlanOf) (s : State) (x : StartOf) (p : ℕ) (k : HostNo) → x.place ≡ Some p → possible plan s (Start k) ≡ true → IsPast s x.host.0 x.play (1010002 * p + 1) → x ≢ record { host = k; play = s.play; place = next_at s k.0 }
other_start plan s x p k at e w = λ same.
    start_again plan s x.host.0 x.play p k (ap (λ (y : StartOf). y.host.0) same) (ap (λ (y : StartOf). y.play) same) (sym (ap (λ (y : StartOf). y.place) same) ∙ at) e w

later_starts : (plan : PlanOf) (s : State) (x : StartOf) (p : ℕ) (es : List Event) → x.place ≡ Some p → legal_from plan s es ≡ true → IsPast s x.host.0 x.play (1010002 * p + 1) → IsNotIn x (starts_from plan s es)
later_starts plan s x p [] at l w = tt
later_starts plan s x p (Start k ∷ es) at l w =
    let now = and_left (possible plan s (Start k)) _ l in (
      other_start plan s x p k at now w,
      later_starts plan (after plan s (Start k)) x p es at (and_right (possible plan s (Start k)) _ l) (past_kept s (after plan s (Start k)) x.host.0 x.play (1010002 * p + 1) (moves plan s (Start k) now) w),
    )
later_starts plan s x p (e ∷ es) at l w =
    later_starts plan (after plan s e) x p es at (and_right (possible plan s e) _ l) (past_kept s (after plan s e) x.host.0 x.play (1010002 * p + 1) (moves plan s e (and_left (possible plan s e) _ l)) w)

starts_once : (plan : PlanOf) (s : State) (es : List Event) → IsSound s → legal_from plan s es ≡ true → NoTwice (starts_from plan s es)
starts_once plan s [] w l = tt
starts_once plan s (Start k ∷ es) w l =
    let now = and_left (possible plan s (Start k)) _ l in
    let rest = and_right (possible plan s (Start k)) _ l in
    let at = start_place plan s k.0 (open_play plan s) now in (
      later_starts plan (after plan s (Start k)) (record { host = k; play = s.play; place = next_at s k.0 }) at.0 es at.1 rest (start_raises plan s k.0 at.0 (open_play plan s) w refl at.1 now),
      starts_once plan (after plan s (Start k)) es (sound_kept s (after plan s (Start k)) (moves plan s (Start k) now) w) rest,
    )
starts_once plan s (e ∷ es) w l =
    starts_once plan (after plan s e) es (sound_kept s (after plan s e) (moves plan s e (and_left (possible plan s e) _ l)) w) (and_right (possible plan s e) _ l)

-- ---- sends
-- a send is at a place
found_send : (item attempt : ℕ) (found : Option HostOf) → option_map_or (may_send_item item attempt) found false ≡ true → (p : ℕ) × (option_map_or running_place found None ≡ Some p)
found_send item attempt None e = cc
found_send item attempt (Some row) e = by_running row.running e
  where
    by_running : (running : Option Running) → option_map_or (sends_running item attempt) running false ≡ true → (p : ℕ) × (option_map (λ (r : Running). r.place) running ≡ Some p)
    by_running None e = cc
    by_running (Some r) e = (r.place, refl)

send_test : (s : State) (k item attempt : ℕ) (ticket : Ticket) (play : PlayOf) → may_send_in s k item attempt ticket play ≡ true → at_row (may_send_item item attempt) s.rows k ≡ true
send_test s k item attempt ticket play e = and_right (not s.stopped && nat_eq ticket.0 s.sends) _ e

send_place : (s : State) (k : HostNo) (item attempt : ℕ) (ticket : Ticket) (found : Option PlayOf) → option_map_or (may_send_in s k.0 item attempt ticket) found false ≡ true → (p : ℕ) × (place_run_by s k ≡ Some p)
send_place s k item attempt ticket None e = cc
send_place s k item attempt ticket (Some play) e = found_send item attempt (slice_get s.rows k.0) (send_test s k.0 item attempt ticket play e)

found_place : (row : HostOf) (p : ℕ) (found : Option HostOf) → found ≡ Some row → option_map_or running_place found None ≡ Some p → running_place row ≡ Some p
found_place row p None is e = cc
found_place row p (Some r) is e = let same : r ≡ row = cc in rw (← same) e

-- a host that sends is in the batch
sends_inside : (n item attempt : ℕ) (row : HostOf) → may_send_item item attempt row ≡ true → RowFrom n row → row.in_batch ≡ true
sends_inside n item attempt row e w = by_running row.running e w
  where
    by_running : (running : Option Running) → option_map_or (sends_running item attempt) running false ≡ true → RunsFrom n row running → row.in_batch ≡ true
    by_running None s v = cc
    by_running (Some r) s v = v.3

-- after a send the host is past it
send_raises : (plan : PlanOf) (s : State) (k : HostNo) (item attempt p : ℕ) (ticket : Ticket) (found : Option PlayOf) → IsSound s → open_play plan s ≡ found → place_run_by s k ≡ Some p → option_map_or (may_send_in s k.0 item attempt ticket) found false ≡ true → IsPast (option_map_or (sent_in s k.0 ticket) found s) k.0 s.play (1010002 * p + 101 * item + attempt + 1)
send_raises plan s k item attempt p ticket None w o f e = cc
send_raises plan s k item attempt p ticket (Some play) w o f e =
    let opened = is_opened plan s s.is_open play refl o in
    inr (inl (
      refl,
      opened,
      change_raises 0 (1010002 * p + 101 * item + attempt + 1) (sent ticket) s.rows k.0
          (λ row here u. let at = found_test (may_send_item item attempt) row (slice_get s.rows k.0) here (send_test s k.0 item attempt ticket play e) in
          let runs : running_place row ≡ Some p = found_place row p (slice_get s.rows k.0) here f in
          sent_from 0 (1010002 * p + 101 * item + attempt + 1) item attempt ticket row at (λ q there. let same : q ≡ p = cc in omega (arith, same)) u)
          (w opened k.0),
      begun_at 0 (sent ticket) s.rows k.0 (λ row here u. sends_inside 0 item attempt row (found_test (may_send_item item attempt) row (slice_get s.rows k.0) here (send_test s k.0 item attempt ticket play e)) u) (w opened k.0),
    ))

-- a host that is past a send doesn't send there
send_least_in : (n p item attempt : ℕ) (found : Option HostOf) → option_map_or (may_send_item item attempt) found false ≡ true → option_map_or running_place found None ≡ Some p → FoundFrom n found → n ≤ 1010002 * p + 101 * item + attempt
send_least_in n p item attempt None e f w = cc
send_least_in n p item attempt (Some row) e f w = send_number n p item attempt row e f w

send_least : (s : State) (k : HostNo) (item attempt n p : ℕ) (ticket : Ticket) (found : Option PlayOf) → place_run_by s k ≡ Some p → option_map_or (may_send_in s k.0 item attempt ticket) found false ≡ true → FoundFrom n (slice_get s.rows k.0) → n ≤ 1010002 * p + 101 * item + attempt
send_least s k item attempt n p ticket None f e w = cc
send_least s k item attempt n p ticket (Some play) f e w = send_least_in n p item attempt (slice_get s.rows k.0) (send_test s k.0 item attempt ticket play e) f w

send_again : (plan : PlanOf) (s : State) (h play p i a item attempt : ℕ) (k : HostNo) (ticket : Ticket) → h ≡ k.0 → play ≡ s.play → place_run_by s k ≡ Some p → i ≡ item → a ≡ attempt → possible plan s (Send k item attempt ticket) ≡ true → IsPast s h play (1010002 * p + 101 * i + a + 1) → ⊥
send_again plan s h play p i a item attempt k ticket same now here is tried e (inl l) = omega (arith, l, now)
send_again plan s h play p i a item attempt k ticket same now here is tried e (inr (inr w)) = absurd (let opened = open_of plan s (may_send_in s k.0 item attempt ticket) (open_play plan s) refl e in let shut = w.1 in cc)
send_again plan s h play p i a item attempt k ticket same now here is tried e (inr (inl w)) =
    let least = send_least s k item attempt (1010002 * p + 101 * i + a + 1) p ticket (open_play plan s) here e (subst (λ (j : ℕ). FoundFrom (1010002 * p + 101 * i + a + 1) (slice_get s.rows j)) same w.2) in
    omega (arith, least, is, tried)

other_send : (plan : PlanOf) (s : State) (x : SendOf) (p item attempt : ℕ) (k : HostNo) (ticket : Ticket) → x.place ≡ Some p → possible plan s (Send k item attempt ticket) ≡ true → IsPast s x.host.0 x.play (1010002 * p + 101 * x.item + x.attempt + 1) → x ≢ record { host = k; play = s.play; place = place_run_by s k; item = item; attempt = attempt }
other_send plan s x p item attempt k ticket at e w = λ same.
    send_again plan s x.host.0 x.play p x.item x.attempt item attempt k ticket (ap (λ (y : SendOf). y.host.0) same) (ap (λ (y : SendOf). y.play) same) (sym (ap (λ (y : SendOf). y.place) same) ∙ at) (ap (λ (y : SendOf). y.item) same) (ap (λ (y : SendOf). y.attempt) same) e w

later_sends : (plan : PlanOf) (s : State) (x : SendOf) (p : ℕ) (es : List Event) → x.place ≡ Some p → legal_from plan s es ≡ true → IsPast s x.host.0 x.play (1010002 * p + 101 * x.item + x.attempt + 1) → IsNotIn x (sends_from plan s es)
later_sends plan s x p [] at l w = tt
later_sends plan s x p (Send k item attempt ticket ∷ es) at l w =
    let now = and_left (possible plan s (Send k item attempt ticket)) _ l in (
      other_send plan s x p item attempt k ticket at now w,
      later_sends plan (after plan s (Send k item attempt ticket)) x p es at (and_right (possible plan s (Send k item attempt ticket)) _ l) (past_kept s (after plan s (Send k item attempt ticket)) x.host.0 x.play (1010002 * p + 101 * x.item + x.attempt + 1) (moves plan s (Send k item attempt ticket) now) w),
    )
later_sends plan s x p (e ∷ es) at l w =
    later_sends plan (after plan s e) x p es at (and_right (possible plan s e) _ l) (past_kept s (after plan s e) x.host.0 x.play (1010002 * p + 101 * x.item + x.attempt + 1) (moves plan s e (and_left (possible plan s e) _ l)) w)

sends_once : (plan : PlanOf) (s : State) (es : List Event) → IsSound s → legal_from plan s es ≡ true → NoTwice (sends_from plan s es)
sends_once plan s [] w l = tt
sends_once plan s (Send k item attempt ticket ∷ es) w l =
    let now = and_left (possible plan s (Send k item attempt ticket)) _ l in
    let rest = and_right (possible plan s (Send k item attempt ticket)) _ l in
    let at = send_place s k item attempt ticket (open_play plan s) now in (
      later_sends plan (after plan s (Send k item attempt ticket)) (record { host = k; play = s.play; place = place_run_by s k; item = item; attempt = attempt }) at.0 es at.1 rest (send_raises plan s k item attempt at.0 ticket (open_play plan s) w refl at.1 now),
      sends_once plan (after plan s (Send k item attempt ticket)) es (sound_kept s (after plan s (Send k item attempt ticket)) (moves plan s (Send k item attempt ticket) now) w) rest,
    )
sends_once plan s (e ∷ es) w l =
    sends_once plan (after plan s e) es (sound_kept s (after plan s e) (moves plan s e (and_left (possible plan s e) _ l)) w) (and_right (possible plan s e) _ l)

-- ---- runs
pub first_sound : (plan : PlanOf) (forks pool : ℕ) → IsSound (first_state plan forks pool)
first_sound plan forks pool = λ o. cc

pub nothing_twice : NothingTwice
nothing_twice plan forks pool trail l =
    record {
      starts = starts_once plan (first_state plan forks pool) trail (first_sound plan forks pool) l;
      sends = sends_once plan (first_state plan forks pool) trail (first_sound plan forks pool) l;
    }

pub run_once : (plan : PlanOf) (pool : ℕ) (trail : List Event) (s : State) → IsRun plan pool trail s → IsOnce plan (first_state plan plan.forks pool) trail
run_once plan pool trail s run = nothing_twice plan plan.forks pool trail run.legal
