-- What every run keeps: there is a row for each host, a task that runs is at a place of the open play and isn't over, and a job that is out was sent.
use Rattle.std.proofs.Common.{◌≡◌, ℕ, zero, suc, ◌+◌, ◌<◌, Bool, true, false, ◌&&◌, List, [], ◌∷◌, length, map, refl, sym, ◌∙◌, ap, subst, arith}
use Rattle.std.specs.Prelude.{◌==◌, Option, Some, None, slice_get, slice_set, option_map, if◌then◌else◌}
use Rattle.std.specs.Option.{option_map_or}
use Rattle.std.proofs.lemmas.List.{length-map, length-set}
use Rattle.std.proofs.lemmas.Bool.{eqb-true}
use Rattle.pb_ids.specs.declared.numbers.Ticket.{Ticket}
use Rattle.pb_tree.specs.declared.tree.Reach.{Reach}
use Rattle.pb_tree.specs.declared.tree.Reach.TheVariants.{At, Done}
use Rattle.pb_tree.specs.Tree.{TreeOf, size_of}
use Rattle.pb_tree.specs.Walk.{reach}
use Rattle.pb_tree.proofs.Rise.{places_bounded}
use Rattle.pb_outcome.specs.declared.item.Item.{Item}
use Rattle.pb_outcome.specs.declared.job.Report.{Report}
use Rattle.pb_outcome.specs.declared.outcome.Form.{Form}
use Rattle.pb_outcome.specs.Items.{is_over}
use Rattle.pb_task_vars.specs.Results.{items_at}
use Rattle.pb_state.specs.declared.event.Event.{Event}
use Rattle.pb_state.specs.declared.event.Event.TheVariants.{Open, Start, Send, Report as Reported, Turn, Close, Stop, Forks}
use Rattle.pb_host.specs.declared.host.Running.{Running}
use Rattle.pb_plan.specs.Plan.{PlayOf, PlanOf}
use Rattle.pb_hosts.specs.Batches.{room_behind, joined_first}
use Rattle.pb_host.specs.Host.{HostOf, first_rows, as_play_begins, place_of, next_place, ended, items_after, progressed, sent, sent_running, reported, reported_running, left}
use Rattle.pb_state.specs.State.{State}
use Rattle.pb_inventory.specs.InventoryOf.{InventoryOf}
use Rattle.pb_task_vars.specs.declared.gifts.DelegatedFacts.{DelegatedFacts}
use Rattle.pb_hosts.proofs.Giving.{given_keeps, length-given}
use Rattle.pb_hosts.specs.Hosts.{change, at_row}
use Rattle.pb_hosts.specs.Giving.{takes, with_delegated, gifts_at, report_gives}
use Rattle.pb_state.specs.Machine.{possible, after, open_play, same_place, may_start_in, may_send_in, after_open, started_in, next_at, facts_at, plan_seen, start_at, sent_in, reported_in, batch_of, turned_in, first_state}
use Rattle.pb_state.specs.Run.{legal_from, state_from, IsRun}
use Rattle.pb_hosts.proofs.Batching.{length-joined}
use Rattle.pb_hosts.proofs.FirstRows.{length-first}
use Rattle.pb_state.proofs.Opening.{open_case, rows_case}
use Rattle.pb_state.proofs.Stands.{stands_at, start_stands}
use Rattle.pb_hosts.proofs.Turning.{Goes, goes_running, turned_by_case, turned_hosts}
use Rattle.pb_state.proofs.Walks.{IsIn, AllIn, IsOfPlan, step_of, first_of}
use Rattle.pb_state.specs.Over.{IsUnfinished, AreUnfinished, IsGoing}

and_left : (a b : Bool) → (a && b) ≡ true → a ≡ true
and_left true b e = refl
and_left false b e = cc

and_right : (a b : Bool) → (a && b) ≡ true → b ≡ true
and_right true b e = e
and_right false b e = cc

-- a job that is out was sent
abbrev pub IsOutBelow : ℕ → Option Ticket → Type 0
IsOutBelow sends None = Unit {0}
IsOutBelow sends (Some ticket) = ticket.0 < sends

-- in a tree of this many places
abbrev pub IsHeldTask : ℕ → ℕ → Option Running → Type 0
IsHeldTask size sends None = Unit {0}
IsHeldTask size sends (Some r) = (r.place < size) × IsOutBelow sends r.out × (is_over r.items ≡ false)

abbrev pub AreHeld : ℕ → ℕ → List HostOf → Type 0
AreHeld size sends [] = Unit {0}
AreHeld size sends (row ∷ rows) = IsHeldTask size sends row.running × AreHeld size sends rows

-- where no play is open there is no place, so that no host runs
abbrev pub places_in : Option PlayOf → ℕ
places_in None = 0
places_in (Some play) = size_of play.tree

pub record IsHeld (plan : PlanOf) (s : State) : Type 0 where
  pub hosts : length s.rows ≡ length plan.inventory.hosts
  pub tasks : AreHeld (places_in (open_play plan s)) s.sends s.rows

-- rows in which no host runs
none_run : (f : HostOf → HostOf) → ((row : HostOf) → (f row).running ≡ None) → (size sends : ℕ) (rows : List HostOf) → AreHeld size sends (map f rows)
none_run f idle size sends [] = tt
none_run f idle size sends (row ∷ rows) = (rw (idle row) tt, none_run f idle size sends rows)

none_first : (size sends h n : ℕ) → AreHeld size sends (first_rows h n)
none_first size sends h zero = tt
none_first size sends h (suc n) = (tt, none_first size sends (h + 1) n)

-- one row changed
length-changed : (rows : List HostOf) (h : ℕ) (f : HostOf → HostOf) (found : Option HostOf) → length (option_map_or (λ row. slice_set rows h (f row)) found rows) ≡ length rows
length-changed rows h f None = refl
length-changed rows h f (Some row) = length-set rows h (f row)

length-change : (rows : List HostOf) (h : ℕ) (f : HostOf → HostOf) → length (change rows h f) ≡ length rows
length-change rows h f = length-changed rows h f (slice_get rows h)

change_on : (row : HostOf) (rows : List HostOf) (h : ℕ) (f : HostOf → HostOf) (found : Option HostOf) → slice_get rows h ≡ found → change (row ∷ rows) (suc h) f ≡ row ∷ change rows h f
change_on row rows h f None e = rw e refl
change_on row rows h f (Some r) e = rw e refl

held_change : (size sends : ℕ) (f : HostOf → HostOf) → ((row : HostOf) → IsHeldTask size sends row.running → IsHeldTask size sends (f row).running) → (rows : List HostOf) (h : ℕ) → AreHeld size sends rows → AreHeld size sends (change rows h f)
held_change size sends f keeps [] h held = tt
held_change size sends f keeps (row ∷ rows) zero held = (keeps row held.0, held.1)
held_change size sends f keeps (row ∷ rows) (suc h) held =
    rw (change_on row rows h f (slice_get rows h) refl) (held.0, held_change size sends f keeps rows h held.1)

-- what hosts are given leaves their tasks as they are
given_held : (size sends : ℕ) (gifts : List DelegatedFacts) (rows : List HostOf) → AreHeld size sends rows → AreHeld size sends (with_delegated gifts rows)
given_held size sends gifts rows held = given_keeps (AreHeld size sends) (λ gift all held. held_change size sends (takes gift) (λ row task. task) all gift.host.0 held) gifts rows held

-- more was sent
below_more : (sends : ℕ) (out : Option Ticket) → IsOutBelow sends out → IsOutBelow (sends + 1) out
below_more sends None b = tt
below_more sends (Some ticket) b = omega arith

task_more : (size sends : ℕ) (running : Option Running) → IsHeldTask size sends running → IsHeldTask size (sends + 1) running
task_more size sends None held = tt
task_more size sends (Some r) held = (held.0, below_more sends r.out held.1, held.2)

held_more : (size sends : ℕ) (rows : List HostOf) → AreHeld size sends rows → AreHeld size (sends + 1) rows
held_more size sends [] held = tt
held_more size sends (row ∷ rows) held = (task_more size sends row.running held.0, held_more size sends rows held.1)

-- a task that has come to some items
progressed_held : (p size sends : ℕ) (inventory : InventoryOf) (play : PlayOf) (items : List Item) (row : HostOf) → p < size → IsHeldTask size sends (progressed inventory play p items row).running
progressed_held p size sends inventory play items row below = by_over (is_over items) refl
  where
    by_over : (over : Bool) → is_over items ≡ over → IsHeldTask size sends (if over then ended inventory play p items row else record row { running = Some (record { place = p; items = items; out = None }) }).running
    by_over true e = tt
    by_over false e = (below, tt, e)

-- a start
same_is : (a b : Option ℕ) → same_place a b ≡ true → a ≡ b
same_is (Some p) (Some q) e = ap Some (eqb-true p q e)
same_is (Some p) None e = cc
same_is None q e = cc

place_below : (tree : TreeOf) (row : HostOf) (p : ℕ) (reached : Reach) → reach tree row.answers ≡ reached → place_of reached ≡ Some p → p < size_of tree
place_below tree row p (At q) r e = let b = (places_bounded tree row.answers q r).0 in let same : q ≡ p = cc in rw (← same) b
place_below tree row p (Done ending) r e = cc

next_below : (tree : TreeOf) (row : HostOf) (p : ℕ) → IsIn tree row → next_place row ≡ Some p → p < size_of tree
next_below tree row p is e = by_batch row.in_batch refl e
  where
    by_batch : (b : Bool) → row.in_batch ≡ b → (if b then place_of (reach row.tree row.answers) else None) ≡ Some p → p < size_of tree
    by_batch true i n = subst (λ (t : TreeOf). p < size_of t) (is i) (place_below row.tree row p (reach row.tree row.answers) refl n)
    by_batch false i n = cc

place_at : (tree : TreeOf) (p : ℕ) (rows : List HostOf) (h : ℕ) → AllIn tree rows → at_row (stands_at (Some p)) rows h ≡ true → p < size_of tree
place_at tree p [] h all e = cc
place_at tree p (row ∷ rows) zero all e = next_below tree row p all.0 (same_is (next_place row) (Some p) (and_right _ _ e))
place_at tree p (row ∷ rows) (suc h) all e = place_at tree p rows h all.1 e

start_open : (plan : PlanOf) (s : State) (h : ℕ) (play : PlayOf) (place : Option ℕ) → open_play plan (option_map_or (start_at plan s h play) place s) ≡ open_play plan s
start_open plan s h play None = refl
start_open plan s h play (Some p) = refl

start_tasks : (plan : PlanOf) (s : State) (h : ℕ) (play : PlayOf) (place : Option ℕ) → AreHeld (size_of play.tree) s.sends s.rows → AllIn play.tree s.rows → at_row (stands_at place) s.rows h ≡ true → AreHeld (size_of play.tree) (option_map_or (start_at plan s h play) place s).sends (option_map_or (start_at plan s h play) place s).rows
start_tasks plan s h play None held all e = held
start_tasks plan s h play (Some p) held all e =
    given_held (size_of play.tree) s.sends (gifts_at plan.inventory play p h (items_at (plan_seen plan s) play h (facts_at s h) p)) (change s.rows h (progressed plan.inventory play p (items_at (plan_seen plan s) play h (facts_at s h) p)))
    (held_change (size_of play.tree) s.sends (progressed plan.inventory play p (items_at (plan_seen plan s) play h (facts_at s h) p))
    (λ row held. progressed_held p (size_of play.tree) s.sends plan.inventory play (items_at (plan_seen plan s) play h (facts_at s h) p) row (place_at play.tree p s.rows h all e)) s.rows h held)

start_hosts : (plan : PlanOf) (s : State) (h : ℕ) (play : PlayOf) (place : Option ℕ) → length (option_map_or (start_at plan s h play) place s).rows ≡ length s.rows
start_hosts plan s h play None = refl
start_hosts plan s h play (Some p) =
    length-given (gifts_at plan.inventory play p h (items_at (plan_seen plan s) play h (facts_at s h) p)) (change s.rows h (progressed plan.inventory play p (items_at (plan_seen plan s) play h (facts_at s h) p)))
    ∙ length-change s.rows h (progressed plan.inventory play p (items_at (plan_seen plan s) play h (facts_at s h) p))

started_in_held : (plan : PlanOf) (s : State) (h : ℕ) (found : Option PlayOf) → open_play plan s ≡ found → IsOfPlan plan s → IsHeld plan s → option_map_or (may_start_in s h) found false ≡ true → IsHeld plan (option_map_or (started_in plan s h) found s)
started_in_held plan s h None o trees held e = held
started_in_held plan s h (Some play) o trees held e = record {
  hosts = start_hosts plan s h play (next_at s h) ∙ held.hosts;
  tasks = rw (start_open plan s h play (next_at s h), o) (start_tasks plan s h play (next_at s h) (rw o at held.tasks) (trees play o) (start_stands s h play e));
}

-- a send
sent_below : (sends : ℕ) (ticket : Ticket) → (ticket.0 == sends) ≡ true → ticket.0 < sends + 1
sent_below sends ticket e = let same = eqb-true ticket.0 sends e in omega arith

sent_held : (size sends : ℕ) (ticket : Ticket) (running : Option Running) → ticket.0 < sends → IsHeldTask size sends running → IsHeldTask size sends (option_map (sent_running ticket) running)
sent_held size sends ticket None below held = tt
sent_held size sends ticket (Some r) below held = (held.0, below, held.2)

sent_in_held : (plan : PlanOf) (s : State) (h item attempt : ℕ) (ticket : Ticket) (found : Option PlayOf) → open_play plan s ≡ found → IsHeld plan s → option_map_or (may_send_in s h item attempt ticket) found false ≡ true → IsHeld plan (option_map_or (sent_in s h ticket) found s)
sent_in_held plan s h item attempt ticket None o held e = held
sent_in_held plan s h item attempt ticket (Some play) o held e =
    let below = sent_below s.sends ticket (and_right _ _ (and_left _ _ e)) in
    record {
      hosts = length-change s.rows h (sent ticket) ∙ held.hosts;
      tasks = held_change (places_in (open_play plan s)) (s.sends + 1) (sent ticket) (λ row held. sent_held (places_in (open_play plan s)) (s.sends + 1) ticket row.running below held) s.rows h (held_more (places_in (open_play plan s)) s.sends s.rows held.tasks);
    }

-- a report
reported_held : (plan : PlanOf) (play : PlayOf) (outcome : Form) (size sends : ℕ) (row : HostOf) → IsHeldTask size sends row.running → IsHeldTask size sends (reported plan play outcome row).running
reported_held plan play outcome size sends row held = by_running row.running held
  where
    by_running : (running : Option Running) → IsHeldTask size sends running → IsHeldTask size sends (option_map_or (reported_running plan play outcome row) running row).running
    by_running None task = held
    by_running (Some r) task = progressed_held r.place size sends plan.inventory play (items_after plan play row.host row.facts outcome r) row task.0

reported_in_held : (plan : PlanOf) (s : State) (r : Report) (found : Option PlayOf) → open_play plan s ≡ found → IsHeld plan s → IsHeld plan (option_map_or (reported_in plan s r) found s)
reported_in_held plan s r None o held = held
reported_in_held plan s r (Some play) o held = record {
  hosts =
      length-given (report_gives (plan_seen plan s) play r.outcome r.host.0 s.rows) (change s.rows r.host.0 (reported (plan_seen plan s) play r.outcome))
      ∙ length-change s.rows r.host.0 (reported (plan_seen plan s) play r.outcome) ∙ held.hosts;
  tasks =
      given_held (places_in (open_play plan s)) s.sends (report_gives (plan_seen plan s) play r.outcome r.host.0 s.rows) (change s.rows r.host.0 (reported (plan_seen plan s) play r.outcome))
      (held_change (places_in (open_play plan s)) s.sends (reported (plan_seen plan s) play r.outcome) (λ row task. reported_held (plan_seen plan s) play r.outcome (places_in (open_play plan s)) s.sends row task) s.rows r.host.0 held.tasks);
}

-- the others
none_joined : (size sends : ℕ) (tree : TreeOf) (room : ℕ) (rows : List HostOf) → AreHeld size sends (joined_first tree room rows)
none_joined size sends tree room [] = tt
none_joined size sends tree room (row ∷ rows) = (tt, none_joined size sends tree (room_behind room row.awaits_batch) rows)

opened_held : (plan : PlanOf) (s : State) → IsHeld plan s → IsHeld plan (after_open plan s)
opened_held plan s held =
    open_case (IsHeld plan) plan s (λ none. held)
    (λ n batch sizes rows play size is.
    record {
      hosts =
          length-joined play.tree size rows
          ∙ rows_case (λ (calls : List HostOf). length calls ≡ length s.rows) plan s n batch sizes rows play size is refl (λ hosts. length-map s.rows (as_play_begins hosts)) ∙ held.hosts;
      tasks = none_joined _ s.sends play.tree size rows;
    })

-- a turn leaves what hosts run as it is
goes_held : (f : HostOf → HostOf) → Goes f → (size sends : ℕ) (rows : List HostOf) → AreHeld size sends rows → AreHeld size sends (map f rows)
goes_held f goes size sends [] held = tt
goes_held f goes size sends (row ∷ rows) held = (subst (IsHeldTask size sends) (sym (goes_running f goes row)) held.0, goes_held f goes size sends rows held.1)

turned_held : (plan : PlanOf) (s : State) (found : Option PlayOf) → IsHeld plan s → IsHeld plan (option_map_or (turned_in plan.inventory s) found s)
turned_held plan s None held = held
turned_held plan s (Some play) held =
    record {
      hosts = turned_hosts plan.inventory play (batch_of s) s.place ∙ held.hosts;
      tasks =
          turned_by_case (AreHeld (places_in (open_play plan s)) s.sends) (λ f goes rows held. goes_held f goes (places_in (open_play plan s)) s.sends rows held)
          plan.inventory play (batch_of s) s.place held.tasks;
    }

pub step_held : (plan : PlanOf) (s : State) (e : Event) → possible plan s e ≡ true → IsOfPlan plan s → IsHeld plan s → IsHeld plan (after plan s e)
step_held plan s Open may trees held = opened_held plan s held
step_held plan s (Start h) may trees held = started_in_held plan s h.0 (open_play plan s) refl trees held may
step_held plan s (Send h item attempt ticket) may trees held = sent_in_held plan s h.0 item attempt ticket (open_play plan s) refl held may
step_held plan s (Reported r) may trees held = reported_in_held plan s r (open_play plan s) refl held
step_held plan s Turn may trees held = turned_held plan s (open_play plan s) held
step_held plan s Close may trees held = record { hosts = length-map s.rows left ∙ held.hosts; tasks = none_run left (λ row. refl) _ s.sends s.rows }
step_held plan s Stop may trees held = record { hosts = held.hosts; tasks = held.tasks }
step_held plan s (Forks n) may trees held = record { hosts = held.hosts; tasks = held.tasks }

held_from : (plan : PlanOf) (s : State) (es : List Event) → legal_from plan s es ≡ true → IsOfPlan plan s → IsHeld plan s → IsHeld plan (state_from plan s es)
held_from plan s [] legal trees held = held
held_from plan s (e ∷ es) legal trees held =
    held_from plan (after plan s e) es (and_right (possible plan s e) (legal_from plan (after plan s e) es) legal) (step_of plan s e trees)
    (step_held plan s e (and_left (possible plan s e) (legal_from plan (after plan s e) es) legal) trees held)

pub held_run : (plan : PlanOf) (pool : ℕ) (trail : List Event) (s : State) → IsRun plan pool trail s → IsHeld plan s
held_run plan pool trail s run =
    subst (IsHeld plan) run.ends
    (held_from plan (first_state plan plan.forks pool) trail run.legal (first_of plan plan.forks pool) (record { hosts = length-first 0 (length plan.inventory.hosts); tasks = none_first _ 0 0 (length plan.inventory.hosts) }))

-- so there is a row for each host
pub hosts_run : (plan : PlanOf) (pool : ℕ) (trail : List Event) (s : State) → IsRun plan pool trail s → length s.rows ≡ length plan.inventory.hosts
hosts_run plan pool trail s run = (held_run plan pool trail s run).hosts

pub host_has_row : (plan : PlanOf) (pool : ℕ) (trail : List Event) (s : State) (h : ℕ) → IsRun plan pool trail s → h < length plan.inventory.hosts → h < length s.rows
host_has_row plan pool trail s h run b = omega (arith, b, hosts_run plan pool trail s run)

-- and each task that runs goes on
unfinished_row : (size sends : ℕ) (running : Option Running) → IsHeldTask size sends running → IsUnfinished running
unfinished_row size sends None held = tt
unfinished_row size sends (Some r) held = held.2

unfinished_rows : (size sends : ℕ) (rows : List HostOf) → AreHeld size sends rows → AreUnfinished rows
unfinished_rows size sends [] held = tt
unfinished_rows size sends (row ∷ rows) held = (unfinished_row size sends row.running held.0, unfinished_rows size sends rows held.1)

pub going_run : (plan : PlanOf) (pool : ℕ) (trail : List Event) (s : State) → IsRun plan pool trail s → IsGoing s
going_run plan pool trail s run = record { tasks = unfinished_rows (places_in (open_play plan s)) s.sends s.rows (held_run plan pool trail s run).tasks }
