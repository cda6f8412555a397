-- What an event does to the batch, and that a host which is past a step of a play stays past it.
use Rattle.std.proofs.Common.{◌≡◌, ℕ, ◌+◌, ◌<◌, ◌≤◌, Bool, true, false, ◌&&◌, not, List, [], refl, sym, ◌∙◌, ap, arith, ◌⊎◌, inl, inr}
use Rattle.std.specs.Prelude.{Option, Some, None, slice_get, nat_eq, if◌then◌else◌}
use Rattle.std.specs.List.{list_any}
use Rattle.std.specs.Option.{option_map_or}
use Rattle.pb_ids.specs.declared.numbers.Ticket.{Ticket}
use Rattle.pb_outcome.specs.declared.job.Report.{Report}
use Rattle.pb_task_vars.specs.Results.{items_at}
use Rattle.pb_task_vars.proofs.FewItems.{few_items}
use Rattle.pb_state.specs.declared.event.Event.{Event}
use Rattle.pb_state.specs.declared.event.Event.TheVariants.{Open, Start, Send, Report as Reported, Turn, Close, Stop, Forks}
use Rattle.pb_inventory.specs.InventoryOf.{InventoryOf}
use Rattle.pb_plan.specs.Plan.{PlayOf, PlanOf}
use Rattle.pb_hosts.specs.Batches.{has_batch_left}
use Rattle.pb_host.specs.Host.{HostOf, progressed, sent, reported}
use Rattle.pb_state.specs.State.{State}
use Rattle.pb_task_vars.specs.declared.gifts.DelegatedFacts.{DelegatedFacts}
use Rattle.pb_host.specs.Runs.{is_running, may_send_item, awaits}
use Rattle.pb_hosts.specs.Hosts.{change, at_row}
use Rattle.pb_hosts.specs.Giving.{with_delegated, gifts_at, report_gives}
use Rattle.pb_state.specs.Machine.{possible, after, open_play, may_start_in, may_send_in, may_report_in, may_turn_in, may_close_in, opened_by, after_open, play_behind, closed, started_in, next_at, facts_at, plan_seen, start_at, sent_in, reported_in, batch_of, turned_in}
use Rattle.pb_state.proofs.Idle.{turn_idle}
use Rattle.pb_state.proofs.Opening.{GoesOn, Begins, open_case}
use Rattle.pb_state.proofs.Stands.{stands_at, start_stands}
use Rattle.pb_hosts.proofs.Turning.{turned_by_case, idle_map}
use Rattle.pb_state.proofs.Walked.{stands_in}
use Rattle.pb_state.proofs.StepNumbers.{and_left, and_right, FoundFrom, FoundBegun, FoundOut, progressed_from, stands, start_number, send_number, sent_from, reported_from, change_keeps, found_test, joined_from, out_stays, left_out, begun_keeps, out_keeps, progressed_inside, progressed_waits, reported_inside, reported_waits, given_from, given_begun, given_out, turn_from, turn_begun, turn_out}

-- ---- the states
-- a host that runs is at its next place
abbrev pub IsSound : State → Type 0
IsSound s = s.is_open ≡ true → (h : ℕ) → FoundFrom 0 (slice_get s.rows h)

-- Each further step of a host is in a later play, or has at least the number n in this one: in the open batch, or none comes in the batches that are
-- left.
abbrev pub IsPast : State → ℕ → ℕ → ℕ → Type 0
IsPast s h play n =
    (play < s.play)
    ⊎ (((play ≡ s.play) × (s.is_open ≡ true) × FoundFrom n (slice_get s.rows h) × FoundBegun (slice_get s.rows h))
    ⊎ ((play ≡ s.play) × (s.is_open ≡ false) × (has_batch_left s.sizes_left ≡ true) × FoundOut (slice_get s.rows h)))

-- What an event does to the batch: it stays, opens or closes. A turn may drop the batches that are left, while one is open.
abbrev pub Stays : State → State → Type 0
Stays s new =
    (new.play ≡ s.play) × (new.is_open ≡ s.is_open) × (s.is_open ≡ false → new.sizes_left ≡ s.sizes_left) × ((h n : ℕ) → FoundFrom n (slice_get s.rows h) → FoundFrom n (slice_get new.rows h))
    × ((h : ℕ) → FoundBegun (slice_get s.rows h) → FoundBegun (slice_get new.rows h)) × ((h : ℕ) → FoundOut (slice_get s.rows h) → FoundOut (slice_get new.rows h))

-- where the play goes on, and where another one begins
abbrev pub OpensNext : State → State → Type 0
OpensNext s new =
    (new.play ≡ s.play) × ((h n : ℕ) → FoundOut (slice_get s.rows h) → FoundFrom n (slice_get new.rows h) × FoundBegun (slice_get new.rows h))

abbrev pub OpensFirst : State → State → Type 0
OpensFirst s new = (has_batch_left s.sizes_left ≡ false) × (s.play ≤ new.play)

abbrev pub Opens : State → State → Type 0
Opens s new = (s.is_open ≡ false) × (new.is_open ≡ true) × ((h : ℕ) → FoundFrom 0 (slice_get new.rows h)) × (OpensNext s new ⊎ OpensFirst s new)

-- where batches are left, and where none is
abbrev pub ClosesOne : State → State → Type 0
ClosesOne s new = (new.play ≡ s.play) × (has_batch_left new.sizes_left ≡ true) × ((h : ℕ) → FoundBegun (slice_get s.rows h) → FoundOut (slice_get new.rows h))

abbrev pub Closes : State → State → Type 0
Closes s new = (s.is_open ≡ true) × (new.is_open ≡ false) × (ClosesOne s new ⊎ (new.play ≡ s.play + 1))

abbrev pub Moves : State → State → Type 0
Moves s new = Stays s new ⊎ (Opens s new ⊎ Closes s new)

opens_later : (s new : State) (play : ℕ) → OpensNext s new ⊎ OpensFirst s new → play < s.play → play < new.play
opens_later s new play (inl next) l = omega (arith, l, next.0)
opens_later s new play (inr first) l = omega (arith, l, first.1)

opens_past : (s new : State) (h play n : ℕ) → new.is_open ≡ true → OpensNext s new ⊎ OpensFirst s new → play ≡ s.play → has_batch_left s.sizes_left ≡ true → FoundOut (slice_get s.rows h) → IsPast new h play n
opens_past s new h play n o (inl next) e sizes_left out = let found = next.1 h n out in inr (inl (e ∙ sym next.0, o, found.0, found.1))
opens_past s new h play n o (inr first) e sizes_left out = absurd (let none = first.0 in cc)

closes_later : (s new : State) (play : ℕ) → ClosesOne s new ⊎ (new.play ≡ s.play + 1) → play < s.play → play < new.play
closes_later s new play (inl one) l = omega (arith, l, one.0)
closes_later s new play (inr last) l = omega (arith, l, last)

closes_past : (s new : State) (h play n : ℕ) → new.is_open ≡ false → ClosesOne s new ⊎ (new.play ≡ s.play + 1) → play ≡ s.play → FoundBegun (slice_get s.rows h) → IsPast new h play n
closes_past s new h play n c (inl one) e begun = inr (inr (e ∙ sym one.0, c, one.1, one.2 h begun))
closes_past s new h play n c (inr last) e begun = inl (omega (arith, e, last))

pub past_kept : (s new : State) (h play n : ℕ) → Moves s new → IsPast s h play n → IsPast new h play n
past_kept s new h play n (inl stays) (inl l) = inl (omega (arith, l, stays.0))
past_kept s new h play n (inl stays) (inr (inl w)) = inr (inl (w.0 ∙ sym stays.0, stays.1 ∙ w.1, stays.3 h n w.2, stays.4 h w.3))
past_kept s new h play n (inl stays) (inr (inr w)) = inr (inr (w.0 ∙ sym stays.0, stays.1 ∙ w.1, ap has_batch_left (stays.2 w.1) ∙ w.2, stays.5 h w.3))
past_kept s new h play n (inr (inl opens)) (inl l) = inl (opens_later s new play opens.3 l)
past_kept s new h play n (inr (inl opens)) (inr (inl w)) = absurd (let shut = opens.0 in let opened = w.1 in cc)
past_kept s new h play n (inr (inl opens)) (inr (inr w)) = opens_past s new h play n opens.1 opens.3 w.0 w.2 w.3
past_kept s new h play n (inr (inr closes)) (inl l) = inl (closes_later s new play closes.2 l)
past_kept s new h play n (inr (inr closes)) (inr (inl w)) = closes_past s new h play n closes.1 closes.2 w.0 w.3
past_kept s new h play n (inr (inr closes)) (inr (inr w)) = absurd (let opened = closes.0 in let shut = w.1 in cc)

pub sound_kept : (s new : State) → Moves s new → IsSound s → IsSound new
sound_kept s new (inl stays) w = λ o h. stays.3 h 0 (w (sym stays.1 ∙ o) h)
sound_kept s new (inr (inl opens)) w = λ o h. opens.2 h
sound_kept s new (inr (inr closes)) w = λ o. absurd (let shut = closes.1 in cc)

-- ---- the events
-- an open play is open
pub is_opened : (plan : PlanOf) (s : State) (b : Bool) (play : PlayOf) → s.is_open ≡ b → (if b then slice_get plan.plays s.play else None) ≡ Some play → b ≡ true
is_opened plan s true play e o = refl
is_opened plan s false play e o = cc

-- an event needs an open batch
pub open_of : (plan : PlanOf) (s : State) (test : PlayOf → Bool) (found : Option PlayOf) → open_play plan s ≡ found → option_map_or test found false ≡ true → s.is_open ≡ true
open_of plan s test None o e = cc
open_of plan s test (Some play) o e = is_opened plan s s.is_open play refl o

stays_in : (s new : State) (gifts : List DelegatedFacts) (k : ℕ) (f : HostOf → HostOf) → new.play ≡ s.play → new.is_open ≡ s.is_open → new.sizes_left ≡ s.sizes_left → new.rows ≡ with_delegated gifts (change s.rows k f)
    → ((row : HostOf) → (f row).in_batch ≡ row.in_batch) → ((row : HostOf) → (f row).awaits_batch ≡ row.awaits_batch)
    → ((h n : ℕ) → FoundFrom n (slice_get s.rows h) → FoundFrom n (slice_get (change s.rows k f) h)) → Moves s new
stays_in s new gifts k f p b l r inside awaits_batch from =
    inl (
      p,
      b,
      λ shut. l,
      λ h n w. rw r (given_from n h gifts (change s.rows k f) (from h n w)),
      λ h w. rw r (given_begun h gifts (change s.rows k f) (begun_keeps f inside awaits_batch s.rows k h w)),
      λ h w. rw r (given_out h gifts (change s.rows k f) (out_keeps f awaits_batch s.rows k h w)),
    )

same_rows : (s new : State) → new.play ≡ s.play → new.is_open ≡ s.is_open → new.sizes_left ≡ s.sizes_left → new.rows ≡ s.rows → Moves s new
same_rows s new p b l r = inl (p, b, λ shut. l, λ h n w. rw r w, λ h w. rw r w, λ h w. rw r w)

start_at_moves : (plan : PlanOf) (s : State) (k : ℕ) (play : PlayOf) (place : Option ℕ) → open_play plan s ≡ Some play → at_row (stands_at place) s.rows k ≡ true → Moves s (option_map_or (start_at plan s k play) place s)
start_at_moves plan s k play None o e = same_rows s s refl refl refl refl
start_at_moves plan s k play (Some p) o e =
    stays_in s (start_at plan s k play p) (gifts_at plan.inventory play p k (items_at (plan_seen plan s) play k (facts_at s k) p)) k (progressed plan.inventory play p (items_at (plan_seen plan s) play k (facts_at s k) p)) refl refl refl refl
    (progressed_inside plan.inventory play p (items_at (plan_seen plan s) play k (facts_at s k) p)) (progressed_waits plan.inventory play p (items_at (plan_seen plan s) play k (facts_at s k) p))
    (λ h n w. change_keeps n (progressed plan.inventory play p (items_at (plan_seen plan s) play k (facts_at s k) p)) s.rows k h
    (λ row is v. let at = found_test (stands_at (Some p)) row (slice_get s.rows k) is e in
    let least = start_number n p row at v in
    progressed_from n p plan.inventory play (items_at (plan_seen plan s) play k (facts_at s k) p) row (stands p row at) (omega (arith, least)) (few_items (plan_seen plan s) play k (facts_at s k) p) (stands_in (Some p) row at))
    w)

start_moves : (plan : PlanOf) (s : State) (k : ℕ) (found : Option PlayOf) → open_play plan s ≡ found → option_map_or (may_start_in s k) found false ≡ true → Moves s (option_map_or (started_in plan s k) found s)
start_moves plan s k None o e = cc
start_moves plan s k (Some play) o e = start_at_moves plan s k play (next_at s k) o (start_stands s k play e)

send_moves : (plan : PlanOf) (s : State) (k item attempt : ℕ) (ticket : Ticket) (found : Option PlayOf) → open_play plan s ≡ found → option_map_or (may_send_in s k item attempt ticket) found false ≡ true → Moves s (option_map_or (sent_in s k ticket) found s)
send_moves plan s k item attempt ticket None o e = cc
send_moves plan s k item attempt ticket (Some play) o e =
    stays_in s (sent_in s k ticket play) [] k (sent ticket) refl refl refl refl (λ row. refl) (λ row. refl)
    (λ h n w. change_keeps n (sent ticket) s.rows k h
    (λ row is v. let at = found_test (may_send_item item attempt) row (slice_get s.rows k) is (and_right (not s.stopped && nat_eq ticket.0 s.sends) _ e) in
    sent_from n n item attempt ticket row at (λ p here. let least = send_number n p item attempt row at here v in omega (arith, least)) v)
    w)

report_moves : (plan : PlanOf) (s : State) (r : Report) (found : Option PlayOf) → open_play plan s ≡ found → option_map_or (may_report_in s r) found false ≡ true → Moves s (option_map_or (reported_in plan s r) found s)
report_moves plan s r None o e = cc
report_moves plan s r (Some play) o e =
    stays_in s (reported_in plan s r play) (report_gives (plan_seen plan s) play r.outcome r.host.0 s.rows) r.host.0 (reported (plan_seen plan s) play r.outcome) refl refl refl refl
    (reported_inside (plan_seen plan s) play r.outcome) (reported_waits (plan_seen plan s) play r.outcome)
    (λ h n w. change_keeps n (reported (plan_seen plan s) play r.outcome) s.rows r.host.0 h
    (λ row is v. let at = found_test (awaits r.ticket r.item r.attempt) row (slice_get s.rows r.host.0) is e in
    reported_from n (plan_seen plan s) play r.outcome r.ticket r.item r.attempt row at v)
    w)

turned_moves : (inventory : InventoryOf) (s : State) (play : PlayOf) → s.is_open ≡ true → list_any is_running s.rows ≡ false → Moves s (turned_in inventory s play)
turned_moves inventory s play o idle =
    inl (
      refl,
      refl,
      λ shut. absurd (let both : true ≡ false = sym o ∙ shut in cc),
      λ h n w. (turned_by_case (λ (all : List HostOf). (list_any is_running all ≡ false) × FoundFrom n (slice_get all h))
          (λ f goes all holds. (sym (idle_map f goes all) ∙ holds.0, turn_from n f goes all h holds.0 holds.1)) inventory play (batch_of s) s.place (idle, w)).1,
      λ h w. turned_by_case (λ (all : List HostOf). FoundBegun (slice_get all h)) (λ f goes all v. turn_begun f goes all h v) inventory play (batch_of s) s.place w,
      λ h w. turned_by_case (λ (all : List HostOf). FoundOut (slice_get all h)) (λ f goes all v. turn_out f goes all h v) inventory play (batch_of s) s.place w,
    )

turn_moves : (plan : PlanOf) (s : State) (found : Option PlayOf) → open_play plan s ≡ found → option_map_or (may_turn_in s) found false ≡ true → Moves s (option_map_or (turned_in plan.inventory s) found s)
turn_moves plan s None o e = cc
turn_moves plan s (Some play) o e = turned_moves plan.inventory s play (is_opened plan s s.is_open play refl o) (turn_idle s play e)

opened_how : (s : State) (n batch : ℕ) (sizes : List ℕ) (rows : List HostOf) (play : PlayOf) (size : ℕ) → GoesOn s n batch sizes rows ⊎ Begins s n batch sizes rows play
    → OpensNext s (opened_by s n batch sizes rows play size) ⊎ OpensFirst s (opened_by s n batch sizes rows play size)
opened_how s n batch sizes rows play size (inl on) = inl (on.1, λ h m out. out_stays play.tree size rows h m (rw on.4 out))
opened_how s n batch sizes rows play size (inr begun) = inr (begun.0, begun.1)

open_moves : (plan : PlanOf) (s : State) → s.is_open ≡ false → Moves s (after_open plan s)
open_moves plan s c =
    open_case (Moves s) plan s (λ none. same_rows s s refl refl refl refl)
    (λ n batch sizes rows play size is. inr (inl (c, refl, λ h. joined_from play.tree size rows h, opened_how s n batch sizes rows play size is.how)))

closed_how : (s : State) (sizes_left : Bool) → has_batch_left s.sizes_left ≡ sizes_left → ClosesOne s (closed s) ⊎ ((closed s).play ≡ s.play + 1)
closed_how s true l = inl (ap (λ (b : Bool). play_behind b s.play) l, l, λ h w. left_out s.rows h w)
closed_how s false l = inr (ap (λ (b : Bool). play_behind b s.play) l)

close_moves : (plan : PlanOf) (s : State) → possible plan s Close ≡ true → Moves s (closed s)
close_moves plan s p = inr (inr (open_of plan s (may_close_in s) (open_play plan s) refl p, refl, closed_how s (has_batch_left s.sizes_left) refl))

may_open_closed : (stopped opened ended more : Bool) → (not stopped && not opened && not ended && more) ≡ true → opened ≡ false
may_open_closed stopped true ended more e =
    let two = and_left (not stopped && not true && not ended) more e in
    let one = and_left (not stopped && not true) (not ended) two in
    absurd (let no = and_right (not stopped) false one in cc)
may_open_closed stopped false ended more e = refl

pub moves : (plan : PlanOf) (s : State) (e : Event) → possible plan s e ≡ true → Moves s (after plan s e)
moves plan s Open p = open_moves plan s (may_open_closed s.stopped s.is_open s.ended _ p)
moves plan s (Start host) p = start_moves plan s host.0 (open_play plan s) refl p
moves plan s (Send host item attempt ticket) p = send_moves plan s host.0 item attempt ticket (open_play plan s) refl p
moves plan s (Reported r) p = report_moves plan s r (open_play plan s) refl p
moves plan s Turn p = turn_moves plan s (open_play plan s) refl p
moves plan s Close p = close_moves plan s p
moves plan s Stop p = same_rows s (after plan s Stop) refl refl refl refl
moves plan s (Forks n) p = same_rows s (after plan s (Forks n)) refl refl refl refl
