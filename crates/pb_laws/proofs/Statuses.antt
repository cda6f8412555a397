-- In every run a host of a batch is what its answers make it.
use Rattle.std.proofs.Common.{◌≡◌, ◌⊎◌, ℕ, zero, suc, ◌+◌, Bool, true, false, ◌&&◌, not, List, [], ◌∷◌, length, map, refl, sym, ◌∙◌, subst, inl, inr}
use Rattle.std.specs.Prelude.{Option, Some, None, IfSome, slice_get, if◌then◌else◌}
use Rattle.std.specs.Option.{option_map_or}
use Rattle.pb_ids.specs.declared.numbers.Ticket.{Ticket}
use Rattle.pb_inventory.specs.InventoryOf.{InventoryOf}
use Rattle.pb_outcome.specs.declared.item.Item.{Item}
use Rattle.pb_outcome.specs.declared.job.Report.{Report}
use Rattle.pb_outcome.specs.declared.outcome.Form.{Form}
use Rattle.pb_outcome.specs.Items.{is_over}
use Rattle.pb_plan.specs.Plan.{PlayOf, PlanOf}
use Rattle.pb_planes.specs.Set.{is_in as is_member}
use Rattle.pb_task_vars.specs.declared.gifts.DelegatedFacts.{DelegatedFacts}
use Rattle.pb_tree.specs.declared.tree.Status.{Status}
use Rattle.pb_tree.specs.declared.tree.Status.TheVariants as stays
use Rattle.pb_tree.specs.Tree.{TreeOf}
use Rattle.pb_tree.specs.Walk.{reach, status_now, unforced}
use Rattle.pb_host.specs.declared.host.Running.{Running}
use Rattle.pb_host.specs.Host.{HostOf, as_play_begins, first_rows, is_active, items_after, joined, left, place_of, progressed, reported, reported_running, sent}
use Rattle.pb_hosts.proofs.Giving.{change_on, given_keeps}
use Rattle.pb_hosts.proofs.Turning.{Goes, turned_by_case}
use Rattle.pb_hosts.specs.Batches.{joined_first, joins, room_behind}
use Rattle.pb_hosts.specs.Giving.{with_delegated, gifts_at, report_gives, takes}
use Rattle.pb_hosts.specs.Hosts.{at_row, change}
use Rattle.pb_task_vars.specs.Results.{items_at}
use Rattle.pb_state.specs.declared.event.Event.{Event}
use Rattle.pb_state.specs.declared.event.Event.TheVariants.{Open, Start, Send, Report as Reported, Turn, Close, Stop, Forks}
use Rattle.pb_state.specs.Machine.{after, after_open, batch_of, facts_at, first_state, may_start_in, next_at, open_play, opened_by, plan_seen, possible, reported_in, sent_in, start_at, started_in, turned_in}
use Rattle.pb_state.specs.Run.{legal_from, state_from, IsLegal, state_after}
use Rattle.pb_state.specs.State.{State}
use Rattle.pb_state.proofs.StepNumbers.{and_left, and_right}
use Rattle.pb_state.proofs.Opening.{open_case, rows_case}
use Rattle.pb_state.proofs.Stands.{stands_at, start_stands}
use Rattle.pb_state.proofs.Walked.{in_if, stands_in}
use Rattle.pb_laws.specs.States.{IsStatused}
use Rattle.pb_laws.proofs.Fresh.{fresh_active, stands_active}

-- ---- of one row
record Fits (row : HostOf) : Type 0 where
  walked : row.in_batch ≡ true → row.status ≡ status_now row.tree row.answers
  -- one that waits for its batch is active, and one that is in none runs nothing
  awaits_batch : row.in_batch ≡ false → row.awaits_batch ≡ true → row.status ≡ stays.Active
  idle : row.in_batch ≡ false → row.running ≡ None

-- a host of the batch that is what its answers make it, whatever else changed
fits_inside : (row : HostOf) → row.in_batch ≡ true → row.status ≡ status_now row.tree row.answers → Fits row
fits_inside row inside is =
    record {
      walked = λ e. is;
      awaits_batch = λ away. absurd (let both_ways : true ≡ false = sym inside ∙ away in cc);
      idle = λ away. absurd (let both_ways : true ≡ false = sym inside ∙ away in cc);
    }

fits_taken : (gift : DelegatedFacts) (row : HostOf) → Fits row → Fits (takes gift row)
fits_taken gift row fits = record { walked = fits.walked; awaits_batch = fits.awaits_batch; idle = fits.idle }

fits_sent : (ticket : Ticket) (row : HostOf) → Fits row → Fits (sent ticket row)
fits_sent ticket row fits = record { walked = fits.walked; awaits_batch = fits.awaits_batch; idle = λ away. rw (fits.idle away) refl }

fits_progressed : (inventory : InventoryOf) (play : PlayOf) (p : ℕ) (items : List Item) (row : HostOf) → row.in_batch ≡ true → Fits row → Fits (progressed inventory play p items row)
fits_progressed inventory play p items row inside fits = by_over (is_over items) refl
  where
    by_over : (over : Bool) → is_over items ≡ over → Fits (progressed inventory play p items row)
    by_over true e = rw e (fits_inside _ inside refl)
    by_over false e = rw e (fits_inside _ inside (fits.walked inside))

runs_inside : (row : HostOf) (r : Running) (inside : Bool) → row.in_batch ≡ inside → row.running ≡ Some r → Fits row → inside ≡ true
runs_inside row r true is runs fits = refl
runs_inside row r false is runs fits = absurd (let both_ways : Some r ≡ None = sym runs ∙ fits.idle is in cc)

fits_reported : (plan : PlanOf) (play : PlayOf) (outcome : Form) (row : HostOf) → Fits row → Fits (reported plan play outcome row)
fits_reported plan play outcome row fits = by_running row.running refl
  where
    by_running : (running : Option Running) → row.running ≡ running → Fits (option_map_or (reported_running plan play outcome row) running row)
    by_running None e = fits
    by_running (Some r) e =
        fits_progressed plan.inventory play r.place (items_after plan play row.host row.facts outcome r) row (runs_inside row r row.in_batch refl e fits) fits

fits_goes : (f : HostOf → HostOf) → Goes f → (row : HostOf) → Fits row → Fits (f row)
fits_goes f goes row fits =
    elim (goes row) [
      | inl same ↦ subst Fits (sym same) fits
      | inr given ↦ subst Fits (sym given.is) (fits_inside _ (in_if row.in_batch (place_of (reach row.tree row.answers)) given.place given.next) refl)
    ]

-- a host that is in no batch, as a play begins and as a batch opens
active_is : (status : Status) → is_active status ≡ true → status ≡ stays.Active
active_is stays.Active e = refl
active_is stays.Failed e = cc
active_is stays.Halted e = cc
active_is stays.Gone e = cc

fits_called : (hosts : List Bool) (row : HostOf) → Fits row → Fits (as_play_begins hosts row)
fits_called hosts row fits = record { walked = fits.walked; awaits_batch = λ away calls. active_is row.status (and_right (is_member hosts row.host) _ calls); idle = fits.idle }

fits_joined : (tree : TreeOf) (joins_now : Bool) (row : HostOf) → row.in_batch ≡ false → (joins_now ≡ true → row.awaits_batch ≡ true) → Fits row → Fits (joined tree joins_now row)
fits_joined tree true row away awaits_batch fits = fits_inside _ refl (fits.awaits_batch away (awaits_batch refl) ∙ sym (fresh_active tree))
fits_joined tree false row away awaits_batch fits = record { walked = λ e. cc; awaits_batch = λ e waiting. fits.awaits_batch away waiting; idle = λ e. refl }

fits_left : (row : HostOf) → Fits row → Fits (left row)
fits_left row fits =
    record {
      walked = λ e. cc;
      awaits_batch = λ e waiting. fits.awaits_batch (not_true row.in_batch (and_right row.awaits_batch _ waiting)) (and_left row.awaits_batch _ waiting);
      idle = λ e. refl;
    }
  where
    not_true : (b : Bool) → not b ≡ true → b ≡ false
    not_true true e = cc
    not_true false e = refl

-- ---- of all rows
abbrev AllFit : List HostOf → Type 0
AllFit [] = Unit {0}
AllFit (row ∷ rows) = Fits row × AllFit rows

abbrev AllAway : List HostOf → Type 0
AllAway [] = Unit {0}
AllAway (row ∷ rows) = (row.in_batch ≡ false) × AllAway rows

fit_change : (f : HostOf → HostOf) → ((row : HostOf) → Fits row → Fits (f row)) → (rows : List HostOf) (h : ℕ) → AllFit rows → AllFit (change rows h f)
fit_change f keeps [] h all = tt
fit_change f keeps (row ∷ rows) zero all = (keeps row all.0, all.1)
fit_change f keeps (row ∷ rows) (suc h) all = rw (change_on row rows h f) (all.0, fit_change f keeps rows h all.1)

fit_at : (test : HostOf → Bool) (f : HostOf → HostOf) → ((row : HostOf) → test row ≡ true → Fits row → Fits (f row)) → (rows : List HostOf) (h : ℕ) → at_row test rows h ≡ true → AllFit rows → AllFit (change rows h f)
fit_at test f keeps [] h may all = tt
fit_at test f keeps (row ∷ rows) zero may all = (keeps row may all.0, all.1)
fit_at test f keeps (row ∷ rows) (suc h) may all = rw (change_on row rows h f) (all.0, fit_at test f keeps rows h may all.1)

fit_given : (gifts : List DelegatedFacts) (rows : List HostOf) → AllFit rows → AllFit (with_delegated gifts rows)
fit_given gifts rows all = given_keeps AllFit (λ gift rows fit. fit_change (takes gift) (λ row fits. fits_taken gift row fits) rows gift.host.0 fit) gifts rows all

fit_map : (f : HostOf → HostOf) → ((row : HostOf) → Fits row → Fits (f row)) → (rows : List HostOf) → AllFit rows → AllFit (map f rows)
fit_map f keeps [] all = tt
fit_map f keeps (row ∷ rows) all = (keeps row all.0, fit_map f keeps rows all.1)

away_called : (hosts : List Bool) (rows : List HostOf) → AllAway rows → AllAway (map (as_play_begins hosts) rows)
away_called hosts [] all = tt
away_called hosts (row ∷ rows) all = (all.0, away_called hosts rows all.1)

away_left : (rows : List HostOf) → AllAway (map left rows)
away_left [] = tt
away_left (row ∷ rows) = (refl, away_left rows)

fit_joined : (tree : TreeOf) (room : ℕ) (rows : List HostOf) → AllAway rows → AllFit rows → AllFit (joined_first tree room rows)
fit_joined tree room [] away all = tt
fit_joined tree room (row ∷ rows) away all =
    (fits_joined tree (joins room row.awaits_batch) row away.0 (λ e. and_left row.awaits_batch _ e) all.0, fit_joined tree (room_behind room row.awaits_batch) rows away.1 all.1)

first_fit : (h n : ℕ) → AllFit (first_rows h n)
first_fit h zero = tt
first_fit h (suc n) = (record { walked = λ e. cc; awaits_batch = λ e. λ f. refl; idle = λ e. refl }, first_fit (h + 1) n)

first_away : (h n : ℕ) → AllAway (first_rows h n)
first_away h zero = tt
first_away h (suc n) = (refl, first_away (h + 1) n)

-- ---- of a run
record IsFit (s : State) : Type 0 where
  rows : AllFit s.rows
  shut : s.is_open ≡ false → AllAway s.rows

-- while a batch is open
goes_open : (s : State) → s.is_open ≡ true → AllFit s.rows → IsFit s
goes_open s opened all = record { rows = all; shut = λ e. absurd (let both_ways : true ≡ false = sym opened ∙ e in cc) }

is_open_by : (plays : Option PlayOf) (b : Bool) (play : PlayOf) → (if b then plays else None) ≡ Some play → b ≡ true
is_open_by plays true play e = refl
is_open_by plays false play e = cc

open_now : (plan : PlanOf) (s : State) (play : PlayOf) → open_play plan s ≡ Some play → s.is_open ≡ true
open_now plan s play o = is_open_by (slice_get plan.plays s.play) s.is_open play o

opened_fit : (plan : PlanOf) (s : State) → s.is_open ≡ false → IsFit s → IsFit (after_open plan s)
opened_fit plan s closed fit =
    open_case IsFit plan s (λ none. fit)
    (λ n batch sizes rows play size is.
    let before = rows_case (λ (rows : List HostOf). AllFit rows × AllAway rows) plan s n batch sizes rows play size is (fit.rows, fit.shut closed)
    (λ hosts. (fit_map (as_play_begins hosts) (λ row fits. fits_called hosts row fits) s.rows fit.rows, away_called hosts s.rows (fit.shut closed))) in
    goes_open (opened_by s n batch sizes rows play size) refl (fit_joined play.tree size rows before.1 before.0))

start_fit : (plan : PlanOf) (s : State) (h : ℕ) (play : PlayOf) (place : Option ℕ) → s.is_open ≡ true → at_row (stands_at place) s.rows h ≡ true → IsFit s → IsFit (option_map_or (start_at plan s h play) place s)
start_fit plan s h play None opened stands fit = fit
start_fit plan s h play (Some p) opened stands fit =
    let items = items_at (plan_seen plan s) play h (facts_at s h) p in
    goes_open (start_at plan s h play p) opened
    (fit_given (gifts_at plan.inventory play p h items) (change s.rows h (progressed plan.inventory play p items))
    (fit_at (stands_at (Some p)) (progressed plan.inventory play p items) (λ row at fits. fits_progressed plan.inventory play p items row (stands_in (Some p) row at) fits) s.rows h stands fit.rows))

started_fit : (plan : PlanOf) (s : State) (h : ℕ) (found : Option PlayOf) → open_play plan s ≡ found → option_map_or (may_start_in s h) found false ≡ true → IsFit s → IsFit (option_map_or (started_in plan s h) found s)
started_fit plan s h None here may fit = fit
started_fit plan s h (Some play) here may fit = start_fit plan s h play (next_at s h) (open_now plan s play here) (start_stands s h play may) fit

sent_fit : (plan : PlanOf) (s : State) (h : ℕ) (ticket : Ticket) (found : Option PlayOf) → open_play plan s ≡ found → IsFit s → IsFit (option_map_or (sent_in s h ticket) found s)
sent_fit plan s h ticket None here fit = fit
sent_fit plan s h ticket (Some play) here fit =
    goes_open (sent_in s h ticket play) (open_now plan s play here) (fit_change (sent ticket) (λ row fits. fits_sent ticket row fits) s.rows h fit.rows)

reported_fit : (plan : PlanOf) (s : State) (r : Report) (found : Option PlayOf) → open_play plan s ≡ found → IsFit s → IsFit (option_map_or (reported_in plan s r) found s)
reported_fit plan s r None here fit = fit
reported_fit plan s r (Some play) here fit =
    goes_open (reported_in plan s r play) (open_now plan s play here)
    (fit_given (report_gives (plan_seen plan s) play r.outcome r.host.0 s.rows) (change s.rows r.host.0 (reported (plan_seen plan s) play r.outcome))
    (fit_change (reported (plan_seen plan s) play r.outcome) (λ row fits. fits_reported (plan_seen plan s) play r.outcome row fits) s.rows r.host.0 fit.rows))

turned_fit : (plan : PlanOf) (s : State) (found : Option PlayOf) → open_play plan s ≡ found → IsFit s → IsFit (option_map_or (turned_in plan.inventory s) found s)
turned_fit plan s None here fit = fit
turned_fit plan s (Some play) here fit =
    goes_open (turned_in plan.inventory s play) (open_now plan s play here)
    (turned_by_case AllFit (λ f goes rows all. fit_map f (λ row fits. fits_goes f goes row fits) rows all) plan.inventory play (batch_of s) s.place fit.rows)

closed_now : (stopped is_open ended next : Bool) → (not stopped && not is_open && not ended && next) ≡ true → is_open ≡ false
closed_now stopped false ended next e = refl
closed_now true true ended next e = cc
closed_now false true ended next e = cc

step_fit : (plan : PlanOf) (s : State) (e : Event) → possible plan s e ≡ true → IsFit s → IsFit (after plan s e)
step_fit plan s Open may fit = opened_fit plan s (closed_now s.stopped s.is_open s.ended _ may) fit
step_fit plan s (Start h) may fit = started_fit plan s h.0 (open_play plan s) refl may fit
step_fit plan s (Send h item attempt ticket) may fit = sent_fit plan s h.0 ticket (open_play plan s) refl fit
step_fit plan s (Reported r) may fit = reported_fit plan s r (open_play plan s) refl fit
step_fit plan s Turn may fit = turned_fit plan s (open_play plan s) refl fit
step_fit plan s Close may fit = record { rows = fit_map left (λ row fits. fits_left row fits) s.rows fit.rows; shut = λ e. away_left s.rows }
step_fit plan s Stop may fit = record { rows = fit.rows; shut = fit.shut }
step_fit plan s (Forks n) may fit = record { rows = fit.rows; shut = fit.shut }

fit_from : (plan : PlanOf) (s : State) (es : List Event) → legal_from plan s es ≡ true → IsFit s → IsFit (state_from plan s es)
fit_from plan s [] legal fit = fit
fit_from plan s (e ∷ es) legal fit =
    fit_from plan (after plan s e) es (and_right (possible plan s e) _ legal) (step_fit plan s e (and_left (possible plan s e) _ legal) fit)

-- ---- what the status says
statused : (row : HostOf) → Fits row → IsStatused row
statused row fits =
    record {
      walked = fits.walked;
      standing = λ place next.
          let inside = in_if row.in_batch (place_of (reach row.tree row.answers)) place next in
          subst (λ (status : Status). (status ≡ stays.Active) ⊎ ((row.tree.force_handlers ≡ true) × (place_of (reach (unforced row.tree) row.answers) ≡ None))) (sym (fits.walked inside))
          (stands_active row.tree row.answers place (walks row.in_batch inside next));
    }
  where
    walks : {next : Option ℕ} {place : ℕ} (b : Bool) → b ≡ true → (if b then next else None) ≡ Some place → next ≡ Some place
    walks true e f = f
    walks false e f = cc

each_statused : (rows : List HostOf) (h : ℕ) → AllFit rows → IfSome (slice_get rows h) IsStatused
each_statused [] h all = tt
each_statused (row ∷ rows) zero all = statused row all.0
each_statused (row ∷ rows) (suc h) all = each_statused rows h all.1

pub statuses_tell : (plan : PlanOf) (pool : ℕ) (trail : List Event) (h : ℕ) → IsLegal plan pool trail → IfSome (slice_get (state_after plan pool trail).rows h) IsStatused
statuses_tell plan pool trail h legal =
    let n = length plan.inventory.hosts in
    each_statused (state_after plan pool trail).rows h
    (fit_from plan (first_state plan plan.forks pool) trail legal (record { rows = first_fit 0 n; shut = λ e. first_away 0 n })).rows
